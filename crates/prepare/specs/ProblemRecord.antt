-- The problem of a job's deck (RULES "Deck", "Lines") as the code prepares it, once for each call.
use Rattle.std.specs.Prelude.{ℕ, List, ℤ, length, Ok, Err}
use Rattle.std.specs.Prelude as Std
use Rattle.query.specs.Place.{x_axis, y_axis}
use Rattle.query.specs.Deck as Query
use Rattle.query.specs.Lines.{lines}
use Rattle.query.specs.Cost.{before}
use Rattle.deck.specs.Values.{rect_record}
use Rattle.deck.specs.declared.Rect.{Rect}
use Rattle.columns.specs.Objects.{pricing_of}
use Rattle.columns.specs.ObjectColumns.{columns_of}
use Rattle.reach.specs.Held.{columns_of_objects, count_of_objects}
use Rattle.refusal.specs.declared.Refusal.{Refusal}
use Rattle.job.specs.Format.{Result, refused, accepted}
use Rattle.prepare.specs.declared.Problem.{Problem}
use Rattle.prepare.specs.declared.PreparedJob.{PreparedJob}

-- what a problem consists of: its area, the columns of its objects with the axis costs, and its lines
pub record Parts : Type 0 where
  pub area : Rect
  pub count : ℕ
  pub columns : List ℤ
  pub vertical : List ℤ
  pub horizontal : List ℤ

-- those that a record of the code holds
abbrev pub parts_in : Problem → Parts
parts_in problem = record {
  area = problem.area;
  count = count_of_objects problem.objects;
  columns = columns_of_objects problem.objects;
  vertical = problem.vertical;
  horizontal = problem.horizontal;
}

-- those of a deck's problem
unfoldable pub problem_record : Query.Deck → Parts
unfolding columns_of lines
problem_record deck = record {
  area = rect_record deck.area;
  count = length deck.stops;
  columns = columns_of (pricing_of deck);
  vertical = lines deck x_axis;
  horizontal = lines deck y_axis;
}

-- ---- what preparing a job gives
-- the rounds, what is paid before, and the problem
pub record GivenParts : Type 0 where
  pub rounds : ℕ
  pub before : ℕ
  pub problem : Parts

-- as the code holds it, or the refusal
abbrev pub given_by : Std.Result PreparedJob Refusal → Std.Result GivenParts Refusal
given_by (Ok given) = Ok (record { rounds = given.rounds; before = given.before; problem = parts_in given.problem })
given_by (Err why) = Err why

-- that of a job, as it is read
unfoldable pub given_for : Result → Std.Result GivenParts Refusal
unfolding problem_record before
given_for (refused why) = Err why
given_for (accepted job) = Ok (record { rounds = job.rounds; before = before job.deck; problem = problem_record job.deck })
