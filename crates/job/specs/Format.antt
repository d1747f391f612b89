-- What a job's bytes are read as (RULES "Job", "Refusals", "Change 2").
use Rattle.std.specs.Prelude as Std
use Rattle.std.specs.Prelude.{Ok, Err, ℕ, Bool, cond, ◌||◌, List, [], ◌∷◌, map, eqb, ltb, length, get_or, ℤ, pos, nat_abs}
use Rattle.std.specs.Int.Signed.{lt_z}
use Rattle.numbers.specs.Lists.{non_empty}
use Rattle.query.specs.Place.{Place, Rect}
use Rattle.query.specs.Deck.{AxisCosts, Stop, Deck, plain}
use Rattle.job_line.specs.Kinds.{area, axis, posts, post, stops, stop, rounds, row}
use Rattle.job_line.specs.OneLine.{Reading, fault, got, Reader, line}
use Rattle.job.specs.Reader.{◌>>=◌, ◌>>◌, return, repeated, optional, end}
use Rattle.refusal.specs.declared.Refusal.{Refusal}
use Rattle.refusal.specs.declared.Refusal.TheVariants.{TooLong, EmptyArea, NoPosts, NoStops}

-- a job: a deck and the number of rounds
pub record Job : Type 0 where
  pub deck : Deck
  pub rounds : ℕ

-- ---- what the numbers of a line say
abbrev pub nth : List ℤ → ℕ → ℤ
nth ns i = get_or ns i (pos 0)

-- `xlo,ylo,xhi,yhi`
abbrev pub area_of : List ℤ → Rect
area_of ns = record { xlo = nth ns 0; ylo = nth ns 1; xhi = nth ns 2; yhi = nth ns 3 }

-- `a,b`, and the numbers that say it
abbrev pub axis_costs_of : List ℤ → AxisCosts
axis_costs_of ns = record { a = nat_abs (nth ns 0); b = nat_abs (nth ns 1) }

abbrev pub axis_numbers : AxisCosts → List ℤ
axis_numbers c = pos c.a ∷ pos c.b ∷ []

-- `n`
abbrev pub count_of : List ℤ → ℕ
count_of ns = nat_abs (nth ns 0)

-- `x,y`
abbrev pub post_of : List ℤ → Place
post_of ns = record { x = nth ns 0; y = nth ns 1 }

-- `x,y,visits`
abbrev pub stop_of : List ℤ → Stop
stop_of ns = record { at = post_of ns; visits = nat_abs (nth ns 2) }

-- what the numbers of all lines say: those of the area, of the axis costs, of each post, of each stop, and the rounds
abbrev pub job_of : List ℤ → List ℤ → List (List ℤ) → List (List ℤ) → List ℤ → Job
job_of a c ps ss n = record {
  deck = record { axis = axis_costs_of c; area = area_of a; posts = map post_of ps; stops = map stop_of ss };
  rounds = count_of n;
}

-- ---- reading
-- all lines of a job, where a missing axis line means these costs
unfoldable pub job_lines : AxisCosts → Reader Job
unfolding line return repeated optional end ◌>>=◌ ◌>>◌
job_lines missing = do
  a ← line (row area)
  c ← optional (row axis) (axis_numbers missing)
  n ← line (row posts)
  ps ← repeated (count_of n) (line (row post)) []
  n ← line (row stops)
  ss ← repeated (count_of n) (line (row stop)) []
  n ← line (row rounds)
  end
  return (job_of a c ps ss n)

-- a refusal, or a job
pub data Result : Type 0 where
  refused : Refusal → Result
  accepted : Job → Result

-- whether an area has no point: refusal 4
unfoldable pub empty_area : Rect → Bool
empty_area r = lt_z r.xhi r.xlo || lt_z r.yhi r.ylo

-- refusals 4, 5 and 6 of an area and of so many posts and stops
unfoldable pub check_parts : Rect → ℕ → ℕ → Std.Result (Unit {0}) Refusal
unfolding empty_area
check_parts r n m = cond (empty_area r) (Err EmptyArea) (cond (eqb n 0) (Err NoPosts) (cond (eqb m 0) (Err NoStops) (Ok tt)))

-- the same of a job, once every line is read
unfoldable pub checked : Job → Result
unfolding empty_area
checked job = cond (empty_area job.deck.area) (refused EmptyArea)
    (cond (non_empty job.deck.posts) (cond (non_empty job.deck.stops) (accepted job) (refused NoStops)) (refused NoPosts))

abbrev pub reading_result : Reading Job → Result
reading_result (fault why) = refused why
reading_result (got job n bs) = checked job

-- the most bytes of a job: more are refusal 1
abbrev pub size_limit : ℕ
size_limit = 16384

-- the refusals of the text, whatever its size
abbrev pub text_with : AxisCosts → List ℕ → Result
text_with missing bytes = reading_result (job_lines missing 1 bytes)

-- refusal 1 before all others
unfoldable pub read_with : AxisCosts → List ℕ → Result
unfolding job_lines checked
read_with missing bytes = cond (ltb size_limit (length bytes)) (refused TooLong) (text_with missing bytes)

-- what a missing axis line means
abbrev pub missing_axis : AxisCosts
missing_axis = plain

-- a text and a job, as every call reads them
abbrev pub read_text : List ℕ → Result
read_text bytes = text_with missing_axis bytes

unfoldable pub read_job : List ℕ → Result
unfolding read_with
read_job bytes = read_with missing_axis bytes
