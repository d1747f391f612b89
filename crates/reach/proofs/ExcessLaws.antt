-- How far a number lies above another, and beyond the ends of a range: its distance to the closest number of the range.
use mathlib.Core.Path.{◌≡◌, refl, ap, ◌∙◌}
use mathlib.Core.Bool.{true, false}
use mathlib.Core.Logic.{⊎_elim}
use Prim.Native.Nat.{ℕ, ◌+◌, ◌*◌, ◌^◌, ◌≤◌, ◌<◌}
use native.Mathlib.Omega.{arith}
use lib.IntN.{ℤ, pos, nat_abs, ◌+ℤ◌, ◌-ℤ◌}
use lib.Signed.{lt_z, ◌≤ℤ◌}
use mir.Syntax.{w32}
use Rattle.numbers.specs.Integer.{dist, clamp}
use Rattle.numbers.proofs.Truth.{test, holds, fails, cond_ind}
use Rattle.numbers.proofs.Integer.{order, abs_range, dist_nat}
use Rattle.numbers.proofs.Distance.{dist_sym, dist_most, clamp_low, clamp_high}
use Rattle.numbers.proofs.Words.{word_fits, gap_above}
use Rattle.query.specs.Range.{travel_limit}
use Rattle.reach.specs.Columns.{EdgesInRange, excess_of}
use Rattle.columns.specs.Ranges.{ScaledPlaceInRange, scaled_limit}
use Rattle.columns.proofs.WordLaws.{sum_is, coordinate}
use Rattle.reach.proofs.NarrowLaws.{word}

excess_yes : (a b : ℤ) → lt_z b a ≡ true → excess_of a b ≡ dist b a
unfolding excess_of
excess_yes a b e = rw e (dist_sym a b)

excess_no : (a b : ℤ) → lt_z b a ≡ false → excess_of a b ≡ 0
unfolding excess_of
excess_no a b e = rw e

pub excess_most : (a b : ℤ) → nat_abs a ≤ scaled_limit → nat_abs b ≤ scaled_limit → excess_of a b ≤ 2 * scaled_limit
unfolding excess_of
excess_most a b g h = cond_ind (λ (n : ℕ). n ≤ 2 * scaled_limit) (lt_z b a) (λ t. dist_most scaled_limit a b g h) (λ t. omega arith)

-- by the code's test
module _ (a b : ℤ) (g : nat_abs a ≤ scaled_limit) (h : nat_abs b ≤ scaled_limit) where
  pub excess_above : lt_z (word b) (word a) ≡ true → word a -ℤ word b ≡ pos (excess_of a b)
  excess_above e =
      gap_above w32 b a (word_fits w32 b (omega arith)) (word_fits w32 a (omega arith)) e
      ∙ rw (excess_yes a b (rw (coordinate a g, coordinate b h) at e))

  pub excess_none : lt_z (word b) (word a) ≡ false → pos 0 ≡ pos (excess_of a b)
  excess_none e = rw (excess_no a b (rw (coordinate a g, coordinate b h) at e))

-- v lies below lo or above hi, or between them
pub clamp_excess : (lo hi v : ℤ) → lo ≤ℤ hi → dist v (clamp lo hi v) ≡ excess_of lo v + excess_of v hi
unfolding clamp
clamp_excess lo hi v h =
    ⊎_elim (λ t. rw (holds (lt_z v lo) t, excess_yes lo v (holds (lt_z v lo) t), excess_no v hi (fails (lt_z hi v) (omega (arith, order)))) (omega arith))
    (λ t. ⊎_elim (λ u. rw (fails (lt_z v lo) t, holds (lt_z hi v) u, excess_no lo v (fails (lt_z v lo) t), excess_yes v hi (holds (lt_z hi v) u))
    (omega (arith, dist_sym hi v)))
    (λ u. rw (fails (lt_z v lo) t, fails (lt_z hi v) u, excess_no lo v (fails (lt_z v lo) t), excess_no v hi (fails (lt_z hi v) u))
    (omega (arith, dist_nat v v)))
    (test (lt_z hi v)))
    (test (lt_z v lo))

-- the same of words
module _ (v lo hi : ℤ) (g : nat_abs v ≤ scaled_limit) (edges : ScaledPlaceInRange lo hi) (h : lo ≤ℤ hi) where
  pub outside_most : dist v (clamp lo hi v) ≤ 2 * scaled_limit
  outside_most = dist_most scaled_limit v (clamp lo hi v) g (within _ (clamp_low lo hi v h) (clamp_high lo hi v h))
    where
      within : (z : ℤ) → lo ≤ℤ z → z ≤ℤ hi → nat_abs z ≤ scaled_limit
      within z k l = (abs_range z scaled_limit).1
          (omega (arith, order, (abs_range lo scaled_limit).0 edges.x_range, (abs_range hi scaled_limit).0 edges.y_range))

  pub outside_sum : (a b : ℤ) → a ≡ pos (excess_of (word lo) (word v)) → b ≡ pos (excess_of (word v) (word hi))
      → word a +ℤ word b ≡ pos (dist v (clamp lo hi v))
  outside_sum a b p q =
      sum_is a b _ _ (p ∙ rw (coordinate lo edges.x_range, coordinate v g)) (q ∙ rw (coordinate v g, coordinate hi edges.y_range))
      (small lo v edges.x_range g) (small v hi g edges.y_range)
      ∙ rw (clamp_excess lo hi v h)
    where
      small : (k l : ℤ) → nat_abs k ≤ scaled_limit → nat_abs l ≤ scaled_limit → excess_of k l < 2 ^ 31
      small k l i j = omega (arith, excess_most k l i j)

  pub outside_word : dist (word v) (clamp (word lo) (word hi) (word v)) ≡ dist v (clamp lo hi v)
  outside_word = rw (coordinate v g, coordinate lo edges.x_range, coordinate hi edges.y_range)

-- the travel of a place to the closest point of a rectangle
abbrev pub away : ℤ → ℤ → ℤ → ℤ → ℤ → ℤ → ℕ
away sx sy xlo ylo xhi yhi = dist sx (clamp xlo xhi sx) + dist sy (clamp ylo yhi sy)

module _ (sx sy xlo ylo xhi yhi : ℤ) (at : ScaledPlaceInRange sx sy) (edges : EdgesInRange xlo ylo xhi yhi) where
  x_edges : ScaledPlaceInRange xlo xhi
  x_edges = record { x_range = edges.low.x_range; y_range = edges.high.x_range }

  y_edges : ScaledPlaceInRange ylo yhi
  y_edges = record { x_range = edges.low.y_range; y_range = edges.high.y_range }

  pub away_most : away sx sy xlo ylo xhi yhi ≤ travel_limit
  away_most = omega (arith, outside_most sx xlo xhi at.x_range x_edges edges.across, outside_most sy ylo yhi at.y_range y_edges edges.deep)

  pub away_word : away (word sx) (word sy) xlo ylo xhi yhi ≡ away sx sy xlo ylo xhi yhi
  away_word = rw (coordinate sx at.x_range, coordinate sy at.y_range) refl

  pub away_sum : (a b : ℤ) → a ≡ pos (dist (word sx) (clamp (word xlo) (word xhi) (word sx)))
      → b ≡ pos (dist (word sy) (clamp (word ylo) (word yhi) (word sy))) → word a +ℤ word b ≡ pos (away sx sy xlo ylo xhi yhi)
  away_sum a b p q =
      sum_is a b _ _ (p ∙ ap pos (outside_word sx xlo xhi at.x_range x_edges edges.across))
      (q ∙ ap pos (outside_word sy ylo yhi at.y_range y_edges edges.deep))
      (small _ (outside_most sx xlo xhi at.x_range x_edges edges.across)) (small _ (outside_most sy ylo yhi at.y_range y_edges edges.deep))
    where
      small : (n : ℕ) → n ≤ 2 * scaled_limit → n < 2 ^ 31
      small n h = omega arith
