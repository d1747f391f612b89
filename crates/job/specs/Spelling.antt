-- How a job is spelled (RULES "Job", "Numbers", "Change 2"), with its axis line or without it, and which jobs can be.
use Rattle.std.specs.Prelude.{ℕ, ◌≤◌, ◌≡◌, Bool, true, false, cond, T, ℤ, pos, length}
use mathlib.Core.List.{List, [], ◌∷◌, ◌++◌, map, flat_map, Memᴰ}
use Rattle.query.specs.Place.{Place, Rect, NonEmpty}
use Rattle.query.specs.Deck.{AxisCosts, Stop}
use Rattle.text.specs.Ascii.{bytes}
use Rattle.text.specs.Decimal.{spell_int}
use Rattle.job_line.specs.Kinds.{Kind, area, axis, posts, post, stops, stop, rounds, row, end_of, in_ranges}
use Rattle.job.specs.Format.{Job, axis_numbers}

-- ---- the lines of a job
-- a line: its kind and its numbers
pub record JobLine : Type 0 where
  pub kind : Kind
  pub numbers : List ℤ

-- `area=xlo,ylo,xhi,yhi`
abbrev pub area_line : Rect → JobLine
area_line r = record { kind = area; numbers = r.xlo ∷ r.ylo ∷ r.xhi ∷ r.yhi ∷ [] }

-- `axis=a,b`
abbrev pub axis_line : AxisCosts → JobLine
axis_line c = record { kind = axis; numbers = axis_numbers c }

-- `posts=n`, `stops=n`, `rounds=n`
abbrev pub count_line : Kind → ℕ → JobLine
count_line kind n = record { kind = kind; numbers = pos n ∷ [] }

-- `post=x,y`
abbrev pub post_line : Place → JobLine
post_line p = record { kind = post; numbers = p.x ∷ p.y ∷ [] }

-- `stop=x,y,visits`
abbrev pub stop_line : Stop → JobLine
stop_line s = record { kind = stop; numbers = s.at.x ∷ s.at.y ∷ pos s.visits ∷ [] }

-- the lines of a job behind those of its area and axis costs, in order, where these numbers of posts and of stops are written
abbrev pub later_lines : ℕ → ℕ → Job → List JobLine
later_lines p s job = count_line posts p
    ∷ (map post_line job.deck.posts ++ (count_line stops s ∷ (map stop_line job.deck.stops ++ (count_line rounds job.rounds ∷ []))))

-- all its lines, with the axis line or without it
abbrev pub lines_counting : Bool → ℕ → ℕ → Job → List JobLine
lines_counting carried p s job =
    area_line job.deck.area ∷ (cond carried (axis_line job.deck.axis ∷ []) [] ++ later_lines p s job)

-- those that it has
abbrev pub lines_of : Bool → Job → List JobLine
lines_of carried job = lines_counting carried (length job.deck.posts) (length job.deck.stops) job

-- ---- their bytes
-- numbers, each with its end
unfoldable pub spell_numbers : List ℤ → List ℕ
unfolding spell_int
spell_numbers [] = []
spell_numbers (n ∷ others) = spell_int n ++ (end_of others ∷ spell_numbers others)

-- the key, then the numbers
unfoldable pub spell_line : JobLine → List ℕ
unfolding bytes spell_numbers
spell_line l = (row l.kind).key ++ spell_numbers l.numbers

-- a job's bytes, with its axis line or without it: its lines, one after the other
unfoldable pub spell : Bool → Job → List ℕ
unfolding flat_map spell_line
spell carried job = flat_map spell_line (lines_of carried job)

-- the spellings of a job, where a missing line means these costs. The one without the line is a spelling only of a job with them
pub data Spells (missing : AxisCosts) (bs : List ℕ) (job : Job) : Type 0 where
  with_line : bs ≡ spell true job → Spells missing bs job
  without_line : bs ≡ spell false job → job.deck.axis ≡ missing → Spells missing bs job

-- ---- which jobs can be spelled
-- those whose every line has its numbers in range. The area may be empty, and posts and stops may be none
pub record Writable (carried : Bool) (job : Job) : Type 0 where
  pub in_ranges_law : (l : JobLine) → Memᴰ l (lines_of carried job) → T (in_ranges (row l.kind).ranges l.numbers)

-- those that are accepted (RULES "Deck", "Job"): with their axis costs in range too, an area that has a point, and a post and a stop
pub record Allowed (job : Job) : Type 0 where
  pub writable : Writable true job
  pub area_full : NonEmpty job.deck.area
  pub some_posts : 1 ≤ length job.deck.posts
  pub some_stops : 1 ≤ length job.deck.stops
