-- Distance on a line, and the closest number of a range.
use mathlib.Core.Path.{◌≡◌}
use Prim.Native.Nat.{ℕ, ◌+◌, ◌*◌, ◌≤◌}
use native.Mathlib.Omega.{arith}
use lib.IntN.{ℤ, nat_abs}
use lib.Signed.{lt_z, ◌≤ℤ◌}
use Rattle.numbers.specs.Integer.{dist, clamp}
use Rattle.numbers.proofs.Truth.{cond_ind}
use Rattle.numbers.proofs.Integer.{order, abs_range, dist_nat}

pub dist_sym : (u v : ℤ) → dist u v ≡ dist v u
dist_sym u v = omega (arith, dist_nat u v, dist_nat v u)

-- v between u and w
pub dist_split : (u v w : ℤ) → u ≤ℤ v → v ≤ℤ w → dist u v + dist v w ≡ dist u w
dist_split u v w h k = omega (arith, order, dist_nat u v, dist_nat v w, dist_nat u w)

-- u and v between −k and k
pub dist_most : (k : ℕ) (u v : ℤ) → nat_abs u ≤ k → nat_abs v ≤ k → dist u v ≤ 2 * k
dist_most k u v g h = omega (arith, (abs_range u k).0 g, (abs_range v k).0 h, dist_nat u v)

pub clamp_low : (lo hi v : ℤ) → lo ≤ℤ hi → lo ≤ℤ clamp lo hi v
unfolding clamp
clamp_low lo hi v h =
    cond_ind (λ (z : ℤ). lo ≤ℤ z) (lt_z v lo) (λ t. omega (arith, order))
    (λ t. cond_ind (λ (z : ℤ). lo ≤ℤ z) (lt_z hi v) (λ u. h) (λ u. omega (arith, order)))

pub clamp_high : (lo hi v : ℤ) → lo ≤ℤ hi → clamp lo hi v ≤ℤ hi
unfolding clamp
clamp_high lo hi v h =
    cond_ind (λ (z : ℤ). z ≤ℤ hi) (lt_z v lo) (λ t. h)
    (λ t. cond_ind (λ (z : ℤ). z ≤ℤ hi) (lt_z hi v) (λ u. omega (arith, order)) (λ u. omega (arith, order)))

-- no number of the range is closer
pub clamp_closest : (lo hi v w : ℤ) → lo ≤ℤ w → w ≤ℤ hi → dist v (clamp lo hi v) ≤ dist v w
unfolding clamp
clamp_closest lo hi v w h k =
    cond_ind (λ (z : ℤ). dist v z ≤ dist v w) (lt_z v lo) (λ t. omega (arith, order, dist_nat v lo, dist_nat v w))
    (λ t. cond_ind (λ (z : ℤ). dist v z ≤ dist v w) (lt_z hi v) (λ u. omega (arith, order, dist_nat v hi, dist_nat v w)) (λ u. omega (arith, dist_nat v v)))

-- the distances to both ends together
pub clamp_both : (lo hi v : ℤ) → lo ≤ℤ hi → dist v lo + dist v hi ≡ 2 * dist v (clamp lo hi v) + dist lo hi
unfolding clamp
clamp_both lo hi v h =
    cond_ind (λ (z : ℤ). dist v lo + dist v hi ≡ 2 * dist v z + dist lo hi) (lt_z v lo)
    (λ t. omega (arith, order, dist_nat v lo, dist_nat v hi, dist_nat lo hi))
    (λ t. cond_ind (λ (z : ℤ). dist v lo + dist v hi ≡ 2 * dist v z + dist lo hi) (lt_z hi v)
    (λ u. omega (arith, order, dist_nat v lo, dist_nat v hi, dist_nat lo hi))
    (λ u. omega (arith, order, dist_nat v lo, dist_nat v hi, dist_nat v v, dist_nat lo hi)))
