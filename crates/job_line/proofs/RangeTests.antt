-- The tests of ranges, number by number.
use mathlib.Core.Path.{◌≡◌, refl, ap}
use mathlib.Core.Bool.{Bool, true, false, ◌&&◌}
use mathlib.Core.List.{List, [], ◌∷◌}
use Prim.Native.Nat.{ℕ, ◌≤◌, ◌<◌}
use native.Mathlib.Omega.{arith}
use borrow.Author.Tests.{ltb-true, le-leb, lt-leb}
use lib.Dec.{T}
use lib.IntN.{ℤ, pos, negsuc}
use lib.Signed.{lt_z, non_neg}
use mir.Syntax.{w64}
use mir.Val.{SFits}
use Rattle.numbers.specs.Integer.{between}
use Rattle.numbers.proofs.Words.{is_true}
use Rattle.numbers.proofs.WordTests.{back, back_is}
use Rattle.numbers.proofs.Truth.{and_left, and_right}
use Rattle.job_line.specs.Kinds.{axis, stop, Range, coordinates, axis_costs, visits, up_to, row, in_range, in_ranges}

pub range_held : (range : Range) {v : ℤ} {r : Bool} → SFits w64 v → r ≡ between range.low range.high (back v) → r ≡ in_range range v
unfolding in_range
range_held range f e = rw (back_is f) at e

-- a number of a record
pub held : (range : Range) {v : ℤ} {r : Bool} → SFits w64 v → r ≡ in_range range (back v) → r ≡ in_range range v
held range f e = rw (back_is f) at e

-- ---- one test after another
pub and_on : {r t a b : Bool} → r ≡ a → r ≡ true → t ≡ b → t ≡ a && b
and_on e on f = rw (← e, on) f

pub and_off : {r a : Bool} (b : Bool) → r ≡ a → r ≡ false → r ≡ a && b
and_off b e off = rw (← e, off) refl

and_nothing : (t : Bool) → t && true ≡ t
and_nothing true = refl
and_nothing false = refl

and_first : (a b c : Bool) → a && (b && c) ≡ (a && (b && true)) && c
and_first true true c = refl
and_first true false c = refl
and_first false b c = refl

module _ (p q : Range) (x y : ℤ) where
  pub in_two : in_ranges (p ∷ q ∷ []) (x ∷ y ∷ []) ≡ in_range p x && in_range q y
  unfolding in_ranges
  in_two = ap (λ t. in_range p x && t) (and_nothing (in_range q y))

  -- a place, and the numbers behind it
  pub in_more : (ranges : List Range) (ns : List ℤ) → in_ranges (p ∷ q ∷ ranges) (x ∷ y ∷ ns) ≡ in_ranges (p ∷ q ∷ []) (x ∷ y ∷ []) && in_ranges ranges ns
  unfolding in_ranges
  in_more ranges ns = and_first (in_range p x) (in_range q y) (in_ranges ranges ns)

pub in_one : (p : Range) (x : ℤ) → in_ranges (p ∷ []) (x ∷ []) ≡ in_range p x
unfolding in_ranges
in_one p x = and_nothing (in_range p x)

-- ---- axis costs
-- a negative one
cost_below : (z : ℤ) → lt_z z (pos 0) ≡ true → in_range axis_costs z ≡ false
unfolding in_range
cost_below (pos n) e = absurd (omega (arith, ltb-true n 0 e))
cost_below (negsuc n) e = refl

pub first_below : (x y : ℤ) → lt_z x (pos 0) ≡ true → in_ranges (row axis).ranges (x ∷ y ∷ []) ≡ false
unfolding in_ranges
first_below x y e = rw (cost_below x e)

pub second_below : (x y : ℤ) → lt_z y (pos 0) ≡ true → in_ranges (row axis).ranges (x ∷ y ∷ []) ≡ false
unfolding in_ranges
second_below x y e = rw (cost_below y e) (go (in_range axis_costs x))
  where
    go : (t : Bool) → t && false ≡ false
    go true = refl
    go false = refl

-- ---- a stop
-- visits in range are not negative
pub stop_natural : (x y v : ℤ) → in_ranges (row stop).ranges (x ∷ y ∷ v ∷ []) ≡ true → T (non_neg v)
unfolding in_ranges
stop_natural x y v e = go v (and_left (in_range visits v) true (and_right (in_range coordinates y) _ (and_right (in_range coordinates x) _ (is_true _ e))))
  where
    go : (v : ℤ) → T (in_range visits v) → T (non_neg v)
    go (pos v) t = tt
    go (negsuc v) t = absurd t

-- ---- a count
pub count_below : (most : ℕ) (z : ℤ) → lt_z z (pos 0) ≡ true → in_ranges (up_to most ∷ []) (z ∷ []) ≡ false
unfolding in_ranges
count_below most (pos n) e = absurd (omega (arith, ltb-true n 0 e))
count_below most (negsuc n) e = refl

pub count_above : (most n : ℕ) → most < n → in_ranges (up_to most ∷ []) (pos n ∷ []) ≡ false
unfolding in_ranges
count_above most n h = rw (le-leb 0 n (omega arith), lt-leb n most h)

pub count_within : (most n : ℕ) → n ≤ most → in_ranges (up_to most ∷ []) (pos n ∷ []) ≡ true
unfolding in_ranges
count_within most n h = rw (le-leb 0 n (omega arith), le-leb n most h)
