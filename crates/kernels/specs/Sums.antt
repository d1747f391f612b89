-- Figures (RULES "Near", "Cost", "Reach", "Bound", "Cuts", "Corner bound") that are summed over turns, each at a place or a rectangle of
-- its own, for the benchmarks.
use Rattle.std.specs.Prelude.{ℕ, zero, suc, ◌+◌, ◌*◌, ◌%◌, ◌≤◌, ◌≡◌, cond, [], ◌∷◌, map, ltb, ℤ, pos, nat_abs, ◌-ℤ◌}
use Rattle.std.specs.Prelude.{get_or, Option, Some, None}
use Rattle.std.specs.Int.Signed.{lt_z}
use Rattle.numbers.specs.Padded.{padded}
use Rattle.query.specs.Place.{Place, Rect}
use Rattle.query.specs.Deck.{Deck}
use Rattle.query.specs.Travel.{near}
use Rattle.query.specs.Cost.{cost}
use Rattle.query.specs.Bound.{bound}
use Rattle.query.specs.CornerBound.{load, corner_bound}
use Rattle.query.specs.Grid.{grid}
use Rattle.job.specs.Format.{Result}
use Rattle.deck.specs.Values.{place_of, rect_of}
use Rattle.deck.specs.declared.Place as Code
use Rattle.deck.specs.declared.Rect as Held
use Rattle.reach.specs.Columns.{Ranged}
use Rattle.cuts.specs.CutRecord.{cut_record}
use Rattle.cuts.specs.declared.Cut.{Cut}
use Rattle.trial.specs.Trial.{on_job, minus_one, least}
use Rattle.query.specs.Range.{coordinate_limit, stops_limit, PlaceInRange}

-- f 0 + .. + f (k - 1)
unfoldable pub sum_to : (ℕ → ℕ) → ℕ → ℕ
sum_to f zero = 0
sum_to f (suc k) = sum_to f k + f k

-- the turns of which the figures are summed, at most
abbrev pub turns_limit : ℕ
turns_limit = 100000

-- a number for each turn, from 0 to coordinate_limit, and that less a number
abbrev pub residue : ℕ → ℕ → ℕ
residue t factor = (t % 65536) * factor % (coordinate_limit + 1)

abbrev pub sample : ℕ → ℕ → ℕ → ℤ
sample t factor less = pos (residue t factor) -ℤ pos less

pub record Sampled (t factor less : ℕ) (r : ℤ) : Type 0 where
  pub is : r ≡ sample t factor less
  pub range : nat_abs r ≤ coordinate_limit

-- the place and the rectangle of a turn
abbrev pub place_at : ℕ → Place
place_at t = record { x = sample t 7919 10000; y = sample t 6007 10000 }

abbrev pub rect_at : ℕ → Rect
rect_at t =
    record { xlo = sample t 7919 coordinate_limit; ylo = sample t 6007 coordinate_limit; xhi = sample t 4409 0; yhi = sample t 3001 0 }

-- records of the code that hold them
pub record TurnPlace (t : ℕ) (p : Code.Place) : Type 0 where
  pub is : place_of p ≡ place_at t
  pub range : PlaceInRange (place_of p)

pub record TurnRect (t : ℕ) (r : Held.Rect) : Type 0 where
  pub is : rect_of r ≡ rect_at t
  pub ranged : Ranged (rect_of r)

-- 1 for a number above 0
abbrev pub positive : ℤ → ℕ
positive z = cond (lt_z (pos 0) z) 1 0

-- 1 for a cut at a line above 0
abbrev pub line_above : Option Cut → ℕ
line_above (Some cut) = positive cut.at
line_above None = 0

-- ---- what each kernel adds at a turn
abbrev pub cost_turn : Deck → ℕ → ℕ
cost_turn deck t = cost deck (place_at t)

abbrev pub load_turn : Deck → ℕ → ℕ
load_turn deck t = load deck (rect_at t)

abbrev pub bound_turn : Deck → ℕ → ℕ
bound_turn deck t = bound deck (rect_at t)

-- 1 where the line of a cut is above 0
abbrev pub cut_turn : Deck → ℕ → ℕ
cut_turn deck t = line_above (cut_record (grid deck) (rect_at t))

-- the near of stop t, over and over; 0 behind the last
abbrev pub near_turn : Deck → ℕ → ℕ
near_turn deck t = get_or (padded stops_limit 0 (map (near deck) deck.stops)) (t % stops_limit) 0

-- 1 where the corner bound is above 0
abbrev pub corner_bound_turn : Deck → ℕ → ℕ
corner_bound_turn deck t = positive (corner_bound deck (rect_at t))

-- the same by the kernel's number
abbrev pub turn : Deck → ℕ → ℕ → ℕ
turn deck which = get_or
    (cost_turn deck ∷ load_turn deck ∷ bound_turn deck ∷ cut_turn deck ∷ near_turn deck ∷ corner_bound_turn deck ∷ []) which (λ t. 0)

-- a sum over some turns: minus_one where the job is refused or there are too many turns, and least where there is no such kernel
abbrev pub kernel_sum : ℕ → ℕ → Result → ℤ
kernel_sum which turns r =
    cond (ltb 5 which) least (on_job minus_one (λ job. cond (ltb turns_limit turns) minus_one (pos (sum_to (turn job.deck which) turns))) r)
