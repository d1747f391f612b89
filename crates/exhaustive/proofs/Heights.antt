-- Heights: coordinates as natural numbers, in the same order and at the same distances.
use mathlib.Core.Path.{◌≡◌}
use Prim.Native.Nat.{ℕ, ◌+◌, ◌-◌, ◌^◌, ◌≤◌, ◌<◌}
use native.Mathlib.Omega.{arith}
use lib.IntN.{ℤ, pos, negsuc, nat_abs, ◌+ℤ◌}
use lib.Signed.{◌≤ℤ◌, ◌<ℤ◌}
use mir.Syntax.{w64}
use mir.ValLaws.{to_z-of_z}
use Rattle.numbers.specs.Integer.{dist}
use Rattle.numbers.proofs.Integer.{pp, nn, order, add_nat, dist_nat, abs_range}
use Rattle.numbers.proofs.Words.{word_fits, natural_is}
use Rattle.numbers.proofs.WordTests.{back}
use Rattle.exhaustive.specs.Ramps.{height_of, height_base, start_limit}

natural : (z : ℤ) (m n : ℕ) → pp z + n ≡ nn z + m → n ≤ m → nat_abs z + n ≡ m
natural (pos z) m n e h = omega arith
natural (negsuc z) m n e h = absurd (omega arith)

pub height_nat : (y : ℤ) → nat_abs y ≤ height_base → height_of y + nn y ≡ pp y + height_base
unfolding height_of
height_nat y h =
    natural (y +ℤ pos height_base) (pp y + height_base) (nn y) (omega (arith, add_nat y (pos height_base))) (omega (arith, (abs_range y height_base).0 h))

pub height_most : (y : ℤ) (k : ℕ) → nat_abs y ≤ k → k ≤ height_base → height_of y ≤ k + height_base
height_most y k h l = omega (arith, height_nat y (omega arith), (abs_range y k).0 h)

pub height_least : (y : ℤ) (k : ℕ) → nat_abs y ≤ k → k ≤ height_base → height_base ≤ height_of y + k
height_least y k h l = omega (arith, height_nat y (omega arith), (abs_range y k).0 h)

module _ (a b : ℤ) (g : nat_abs a ≤ height_base) (h : nat_abs b ≤ height_base) where
  pub height_le : a ≤ℤ b → height_of a ≤ height_of b
  height_le l = omega (arith, order, height_nat a g, height_nat b h)

  pub height_lt : a <ℤ b → height_of a < height_of b
  height_lt l = omega (arith, order, height_nat a g, height_nat b h)

  pub height_dist : dist a b ≡ (height_of a - height_of b) + (height_of b - height_of a)
  height_dist = omega (arith, dist_nat a b, height_nat a g, height_nat b h)

-- ---- as the code computes it
module _ (y : ℤ) (h : nat_abs y ≤ start_limit) where
  raised : back y +ℤ pos height_base ≡ pos (height_of y)
  raised = rw (to_z-of_z w64 y (word_fits w64 y (omega arith))) (omega (arith, order, add_nat y (pos height_base), height_nat y (omega arith)))

  small : height_of y < 2 ^ 63
  small = omega (arith, height_most y start_limit h (omega arith))

  pub height_is : nat_abs (back (back y +ℤ pos height_base)) ≡ height_of y
  height_is = natural_is w64 (back y +ℤ pos height_base) (height_of y) raised small
