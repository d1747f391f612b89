-- Whole numbers multiplied by a natural number: sizes, distances, orders and closest numbers scale with them.
use mathlib.Core.Path.{◌≡◌, refl, sym, ap, ◌∙◌}
use mathlib.Core.Bool.{Bool, true, false, not, cond}
use mathlib.Core.List.{List, map}
use Prim.Native.Nat.{ℕ, zero, suc, ◌+◌, ◌*◌, ◌≤◌, ◌<◌}
use native.Mathlib.Nat.{mul-sub, mul-le-mul, mul-le-mul_left, mul-lt-mul_of_pos_left}
use native.Mathlib.Omega.{arith}
use lib.Dec.{T}
use lib.IntN.{ℤ, pos, negsuc, neg_ℤ, nat_abs}
use lib.ListN.{get_or, get_or-map}
use lib.Signed.{lt_z, ◌≤ℤ◌, ◌<ℤ◌}
use Rattle.numbers.specs.Integer.{dist, times, clamp}
use Rattle.numbers.proofs.Truth.{holds, fails}
use Rattle.numbers.proofs.Integer.{pp, nn, order, dist_nat}

neg_parts : (m : ℕ) → (pp (neg_ℤ (pos m)) ≡ 0) × (nn (neg_ℤ (pos m)) ≡ m)
neg_parts zero = (refl, refl)
neg_parts (suc m) = (refl, refl)

pub scale_parts : (k : ℕ) (z : ℤ) → (pp (times k z) ≡ k * pp z) × (nn (times k z) ≡ k * nn z)
unfolding times
scale_parts k (pos b) = (refl, omega arith)
scale_parts k (negsuc b) = (omega (arith, neg_parts (k * suc b)), (neg_parts (k * suc b)).1)

scale_zero : (k : ℕ) → times k (pos 0) ≡ pos 0
unfolding times
scale_zero k = let e : k * 0 ≡ 0 = omega arith in ap pos e

-- a list of scaled numbers
pub scaled_at : (k : ℕ) (xs : List ℤ) (i : ℕ) → get_or (map (times k) xs) i (pos 0) ≡ times k (get_or xs i (pos 0))
scaled_at k xs i = ap (get_or (map (times k) xs) i) (sym (scale_zero k)) ∙ get_or-map (times k) xs i (pos 0)

abs_parts : (z : ℤ) → nat_abs z ≡ pp z + nn z
abs_parts (pos b) = omega arith
abs_parts (negsuc b) = omega arith

pub scale_abs : (k : ℕ) (z : ℤ) → nat_abs (times k z) ≡ k * nat_abs z
scale_abs k z = abs_parts (times k z) ∙ omega (arith, scale_parts k z) ∙ ap (λ (n : ℕ). k * n) (sym (abs_parts z))

pub scale_most : (k m n : ℕ) (z : ℤ) → k ≤ m → nat_abs z ≤ n → nat_abs (times k z) ≤ m * n
scale_most k m n z g h = rw scale_abs (mul-le-mul g h)

pub dist_scale : (k : ℕ) (u v : ℤ) → dist (times k u) (times k v) ≡ k * dist u v
dist_scale k u v = rw (dist_nat u v) (omega (
  arith,
  dist_nat (times k u) (times k v),
  scale_parts k u,
  scale_parts k v,
  mul-sub k (pp u + nn v) (pp v + nn u),
  mul-sub k (pp v + nn u) (pp u + nn v),
))

pub scale_le : (k : ℕ) (u v : ℤ) → u ≤ℤ v → times k u ≤ℤ times k v
scale_le k u v h = let m : pp u + nn v ≤ pp v + nn u = omega (arith, order) in
    omega (arith, order, scale_parts k u, scale_parts k v, mul-le-mul_left k m)

pub scale_lt : (k : ℕ) (u v : ℤ) → 1 ≤ k → u <ℤ v → times k u <ℤ times k v
scale_lt k u v l h = let m : pp u + nn v < pp v + nn u = omega (arith, order) in
    omega (arith, order, scale_parts k u, scale_parts k v, mul-lt-mul_of_pos_left m l)

scale_test : (k : ℕ) (u v : ℤ) → 1 ≤ k → lt_z (times k u) (times k v) ≡ lt_z u v
scale_test k u v l = go (lt_z u v) refl
  where
    go : (b : Bool) → lt_z u v ≡ b → lt_z (times k u) (times k v) ≡ b
    go true e = holds _ (scale_lt k u v l (record { lt = rw e tt })).lt
    go false e = fails _ (let h : v ≤ℤ u = let t : T (not (lt_z u v)) = rw e tt in omega (arith, order) in
        let g = scale_le k v u h in omega (arith, order))

scale_cond : (k : ℕ) (b : Bool) (u v : ℤ) → times k (cond b u v) ≡ cond b (times k u) (times k v)
scale_cond k true u v = refl
scale_cond k false u v = refl

none : (z : ℤ) → times 0 z ≡ pos 0
none z = omega (arith, order, scale_parts 0 z)

-- the closest number of a scaled range
pub clamp_scale : (k : ℕ) (lo hi v : ℤ) → clamp (times k lo) (times k hi) (times k v) ≡ times k (clamp lo hi v)
unfolding clamp
clamp_scale zero lo hi v = rw (none lo, none hi, none v, none (clamp lo hi v))
clamp_scale (suc k) lo hi v = rw (
  scale_test (suc k) v lo (omega arith),
  scale_test (suc k) hi v (omega arith),
  scale_cond (suc k) (lt_z v lo) lo (cond (lt_z hi v) hi v),
  scale_cond (suc k) (lt_z hi v) hi v,
)
