-- Whole numbers as differences of two natural numbers, z = pp z − nn z, so that `omega` proves facts of order and distance:
-- `omega (arith, order)` reads and proves `≤ℤ`, `<ℤ`, the tests `le_z`, `lt_z`, `eq_z` and equations of ℤ; `add_nat`, `sub_nat`,
-- `dist_nat` and `half_nat` say what a sum, a difference, a distance and a half are.
use mathlib.Core.Path.{◌≡◌, refl, ap, subst}
use mathlib.Core.Bool.{not}
use mathlib.Core.Logic.{◌↔◌}
use Prim.Native.Nat.{ℕ, zero, suc, ◌+◌, ◌-◌, ◌*◌, ◌/◌, ◌≤◌, ◌<◌}
use native.Mathlib.Omega.{arith}
use lib.Dec.{T, T_prop, ltb, leb→le, le→leb, ltb→lt, lt→ltb, nleb→lt, nltb→le, eqb→eq, eqb_refl, not_T}
use lib.IntN.{ℤ, pos, negsuc, neg_ℤ, nat_abs, sub_ℕ, ◌+ℤ◌, ◌-ℤ◌}
use lib.Signed.{le_z, lt_z, shr_z, ◌≤ℤ◌, ◌<ℤ◌}
use Rattle.numbers.specs.Integer.{eq_z, dist, half_up}
use Rattle.numbers.proofs.Truth.{cond_ind}

abbrev pub pp : ℤ → ℕ
pp (pos n) = n
pp (negsuc n) = 0

abbrev pub nn : ℤ → ℕ
nn (pos n) = 0
nn (negsuc n) = suc n

-- ---- the order
pub le_z_nat : (a b : ℤ) → T (le_z a b) → pp a + nn b ≤ pp b + nn a
le_z_nat (pos a) (pos b) t = omega (arith, leb→le)
le_z_nat (pos a) (negsuc b) t = absurd t
le_z_nat (negsuc a) (pos b) t = omega arith
le_z_nat (negsuc a) (negsuc b) t = omega (arith, leb→le)

pub nat_le_z : (a b : ℤ) → pp a + nn b ≤ pp b + nn a → T (le_z a b)
nat_le_z (pos a) (pos b) h = le→leb a b (omega arith)
nat_le_z (pos a) (negsuc b) h = omega arith
nat_le_z (negsuc a) (pos b) h = tt
nat_le_z (negsuc a) (negsuc b) h = le→leb b a (omega arith)

pub lt_z_nat : (a b : ℤ) → T (lt_z a b) → pp a + nn b < pp b + nn a
lt_z_nat (pos a) (pos b) t = omega (arith, ltb→lt)
lt_z_nat (pos a) (negsuc b) t = absurd t
lt_z_nat (negsuc a) (pos b) t = omega arith
lt_z_nat (negsuc a) (negsuc b) t = omega (arith, ltb→lt)

pub nat_lt_z : (a b : ℤ) → pp a + nn b < pp b + nn a → T (lt_z a b)
nat_lt_z (pos a) (pos b) h = lt→ltb a b (omega arith)
nat_lt_z (pos a) (negsuc b) h = omega arith
nat_lt_z (negsuc a) (pos b) h = tt
nat_lt_z (negsuc a) (negsuc b) h = lt→ltb b a (omega arith)

pub eq_z_nat : (a b : ℤ) → T (eq_z a b) → pp a + nn b ≡ pp b + nn a
eq_z_nat (pos a) (pos b) t = omega (arith, eqb→eq)
eq_z_nat (pos a) (negsuc b) t = absurd t
eq_z_nat (negsuc a) (pos b) t = absurd t
eq_z_nat (negsuc a) (negsuc b) t = omega (arith, eqb→eq)

pub nat_eq : (a b : ℤ) → pp a + nn b ≡ pp b + nn a → a ≡ b
nat_eq (pos a) (pos b) h = let e : a ≡ b = omega arith in ap pos e
nat_eq (pos a) (negsuc b) h = absurd (omega arith)
nat_eq (negsuc a) (pos b) h = absurd (omega arith)
nat_eq (negsuc a) (negsuc b) h = let e : a ≡ b = omega arith in ap negsuc e

pub eq_nat : (a b : ℤ) → a ≡ b → pp a + nn b ≡ pp b + nn a
eq_nat a b e = subst (λ (z : ℤ). pp a + nn z ≡ pp z + nn a) e refl

eq_z_refl : (a : ℤ) → T (eq_z a a)
eq_z_refl (pos a) = eqb_refl a
eq_z_refl (negsuc a) = eqb_refl a

pub nat_eq_z : (a b : ℤ) → pp a + nn b ≡ pp b + nn a → T (eq_z a b)
nat_eq_z a b h = subst (λ (z : ℤ). T (eq_z a z)) (nat_eq a b h) (eq_z_refl a)

pub le_nat : (a b : ℤ) → a ≤ℤ b → pp a + nn b ≤ pp b + nn a
le_nat a b h = le_z_nat a b h.le

pub nat_le : (a b : ℤ) → pp a + nn b ≤ pp b + nn a → a ≤ℤ b
nat_le a b h = record { le = nat_le_z a b h }

pub lt_nat : (a b : ℤ) → a <ℤ b → pp a + nn b < pp b + nn a
lt_nat a b h = lt_z_nat a b h.lt

pub nat_lt : (a b : ℤ) → pp a + nn b < pp b + nn a → a <ℤ b
nat_lt a b h = record { lt = nat_lt_z a b h }

-- a test that failed
pub nle_z_nat : (a b : ℤ) → T (not (le_z a b)) → pp b + nn a < pp a + nn b
nle_z_nat (pos a) (pos b) t = omega (arith, nleb→lt)
nle_z_nat (pos a) (negsuc b) t = omega arith
nle_z_nat (negsuc a) (pos b) t = absurd t
nle_z_nat (negsuc a) (negsuc b) t = omega (arith, nleb→lt)

pub nlt_z_nat : (a b : ℤ) → T (not (lt_z a b)) → pp b + nn a ≤ pp a + nn b
nlt_z_nat (pos a) (pos b) t = omega (arith, nltb→le)
nlt_z_nat (pos a) (negsuc b) t = omega arith
nlt_z_nat (negsuc a) (pos b) t = absurd t
nlt_z_nat (negsuc a) (negsuc b) t = omega (arith, nltb→le)

pub nat_nle_z : (a b : ℤ) → pp b + nn a < pp a + nn b → T (not (le_z a b))
nat_nle_z a b h = not_T (le_z a b) (λ t. omega (arith, le_z_nat))

pub nat_nlt_z : (a b : ℤ) → pp b + nn a ≤ pp a + nn b → T (not (lt_z a b))
nat_nlt_z a b h = not_T (lt_z a b) (λ t. omega (arith, lt_z_nat))

pub ruleset order = (
  le_z_nat,
  nat_le_z,
  lt_z_nat,
  nat_lt_z,
  eq_z_nat,
  nat_eq_z,
  nat_eq,
  eq_nat,
  le_nat,
  nat_le,
  lt_nat,
  nat_lt,
  nle_z_nat,
  nat_nle_z,
  nlt_z_nat,
  nat_nlt_z,
)

pub <ℤ_prop : (a b : ℤ) → IsProp (a <ℤ b)
<ℤ_prop a b h k = λ i. record { lt = T_prop (lt_z a b) h.lt k.lt i }

-- ---- sums, differences, distances
sub_cases : (m n : ℕ) → pp (sub_ℕ m n) + n ≡ nn (sub_ℕ m n) + m
sub_cases m n = cond_ind (λ (z : ℤ). pp z + n ≡ nn z + m) (ltb m n) (λ t. omega (arith, ltb→lt)) (λ t. omega (arith, nltb→le))

pub add_nat : (u v : ℤ) → pp (u +ℤ v) + (nn u + nn v) ≡ nn (u +ℤ v) + (pp u + pp v)
add_nat (pos a) (pos b) = omega arith
add_nat (pos a) (negsuc b) = omega (arith, sub_cases a (suc b))
add_nat (negsuc a) (pos b) = omega (arith, sub_cases b (suc a))
add_nat (negsuc a) (negsuc b) = omega arith

neg_nat : (v : ℤ) → pp (neg_ℤ v) + pp v ≡ nn (neg_ℤ v) + nn v
neg_nat (pos zero) = refl
neg_nat (pos (suc n)) = omega arith
neg_nat (negsuc n) = omega arith

pub sub_nat : (u v : ℤ) → pp (u -ℤ v) + (nn u + pp v) ≡ nn (u -ℤ v) + (pp u + nn v)
sub_nat u v = omega (arith, add_nat u (neg_ℤ v), neg_nat v)

-- of a whole number one of the two is 0
abs_nat : (z : ℤ) (m n : ℕ) → pp z + n ≡ nn z + m → nat_abs z ≡ (m - n) + (n - m)
abs_nat (pos z) m n h = omega arith
abs_nat (negsuc z) m n h = omega arith

-- z between −k and k
pub abs_range : (z : ℤ) (k : ℕ) → (nat_abs z ≤ k) ↔ ((pp z ≤ nn z + k) × (nn z ≤ pp z + k))
abs_range z k = omega (arith, abs_nat z (pp z) (nn z) (omega arith))

pub sum_abs : (a b : ℤ) (j k : ℕ) → nat_abs a ≤ j → nat_abs b ≤ k → nat_abs (a +ℤ b) ≤ j + k
sum_abs a b j k h l = (abs_range (a +ℤ b) (j + k)).1 (omega (arith, add_nat a b, (abs_range a j).0 h, (abs_range b k).0 l))

pub sub_abs : (a b : ℤ) (j k : ℕ) → nat_abs a ≤ j → nat_abs b ≤ k → nat_abs (a -ℤ b) ≤ j + k
sub_abs a b j k h l = (abs_range (a -ℤ b) (j + k)).1 (omega (arith, sub_nat a b, (abs_range a j).0 h, (abs_range b k).0 l))

pub dist_nat : (u v : ℤ) → dist u v ≡ (pp u + nn v - (pp v + nn u)) + (pp v + nn u - (pp u + nn v))
unfolding dist
dist_nat u v = abs_nat (u -ℤ v) (pp u + nn v) (pp v + nn u) (omega (arith, sub_nat u v))

-- ---- halving: h = half_up z is the least number with z ≤ 2 h
pub record Half (z h : ℤ) : Type 0 where
  pub enough : pp z + 2 * nn h ≤ nn z + 2 * pp h
  pub least : nn z + 2 * pp h ≤ pp z + 2 * nn h + 1

pub half_nat : (z : ℤ) → Half z (half_up z)
unfolding half_up
half_nat (pos n) = record { enough = omega arith; least = omega arith }
half_nat (negsuc n) = negative (suc n / 2) (omega arith) (omega arith)
  where
    negative : (h : ℕ) → 2 * h ≤ suc n → suc n ≤ 2 * h + 1 → Half (negsuc n) (neg_ℤ (pos h))
    negative zero p q = record { enough = omega arith; least = omega arith }
    negative (suc h) p q = record { enough = omega arith; least = omega arith }

-- a shift by one place halves downwards
record Floor (z f : ℤ) : Type 0 where
  low : 2 * pp f + nn z ≤ pp z + 2 * nn f
  high : pp z + 2 * nn f ≤ 2 * pp f + nn z + 1

shift_floor : (z : ℤ) → Floor z (shr_z z 2)
shift_floor (pos n) = record { low = omega arith; high = omega arith }
shift_floor (negsuc n) = record { low = omega arith; high = omega arith }

pub half_shift : (z : ℤ) → shr_z (z +ℤ pos 1) 2 ≡ half_up z
half_shift z = omega (arith, order, shift_floor (z +ℤ pos 1), add_nat z (pos 1), half_nat z)

-- half of a difference m − s that is at most 2 n
pub half_sub_le : (m s n : ℕ) → m ≤ 2 * n + s → half_up (pos m -ℤ pos s) ≤ℤ pos n
half_sub_le m s n h = omega (arith, order, half_nat (pos m -ℤ pos s), sub_nat (pos m) (pos s))

-- m − s between −2 k and 2 k
pub half_sub_abs : (m s k : ℕ) → m ≤ 2 * k → s ≤ 2 * k → nat_abs (half_up (pos m -ℤ pos s)) ≤ k
half_sub_abs m s k g h = (abs_range (half_up (pos m -ℤ pos s)) k).1 (omega (arith, half_nat (pos m -ℤ pos s), sub_nat (pos m) (pos s)))
