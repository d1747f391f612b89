-- Signed machine words: the logic has a signed value as what its bits read back as, `to_z w (of_z w z)`, which is z where z fits the width.
use mathlib.Core.Path.{◌≡◌, refl}
use mathlib.Core.Bool.{Bool, true, false, not}
use Prim.Native.Nat.{ℕ, zero, suc, ◌/◌, ◌^◌, ◌≤◌, ◌<◌}
use native.Mathlib.Omega.{arith}
use lib.Dec.{T}
use lib.IntN.{ℤ, pos, negsuc, neg_ℤ, nat_abs, ◌-ℤ◌}
use lib.Signed.{mag, lt_z, non_neg, quot_z}
use mir.Syntax.{Width, w64}
use mir.Val.{hbits, SFits, Fits, to_z, of_z}
use mir.ValLaws.{to_z-of_z, to_z_pos, half_full}
use Rattle.numbers.specs.Integer.{dist, half_up}
use Rattle.numbers.proofs.Integer.{order, sub_nat, dist_nat, half_nat}

pub word_fits : (w : Width) (z : ℤ) → nat_abs z < 2 ^ hbits w → SFits w z
word_fits w (pos n) h = record { sfits = h }
word_fits w (negsuc n) h = record { sfits = omega arith }

-- the outcome of a test
pub is_true : (b : Bool) → b ≡ true → T b
is_true b e = rw e tt

pub is_false : (b : Bool) → b ≡ false → T (not b)
is_false b e = rw e tt

-- ---- the distance of two words is the larger less the smaller
module _ (w : Width) (u v : ℤ) (fu : SFits w u) (fv : SFits w v) where
  pub gap_above : lt_z (to_z w (of_z w u)) (to_z w (of_z w v)) ≡ true → to_z w (of_z w v) -ℤ to_z w (of_z w u) ≡ pos (dist u v)
  gap_above e = rw (to_z-of_z w u fu, to_z-of_z w v fv) (go (rw (to_z-of_z w u fu, to_z-of_z w v fv) at e))
    where
      go : lt_z u v ≡ true → v -ℤ u ≡ pos (dist u v)
      go h = let t = is_true (lt_z u v) h in omega (arith, order, sub_nat v u, dist_nat u v)

  pub gap_below : lt_z (to_z w (of_z w u)) (to_z w (of_z w v)) ≡ false → to_z w (of_z w u) -ℤ to_z w (of_z w v) ≡ pos (dist u v)
  gap_below e = rw (to_z-of_z w u fu, to_z-of_z w v fv) (go (rw (to_z-of_z w u fu, to_z-of_z w v fv) at e))
    where
      go : lt_z u v ≡ false → u -ℤ v ≡ pos (dist u v)
      go h = let t = is_false (lt_z u v) h in omega (arith, order, sub_nat u v, dist_nat u v)

-- a difference of words that is a natural number: it fits, and its cast to an unsigned word gives it
module _ (w : Width) (z : ℤ) (n : ℕ) (e : z ≡ pos n) (h : n < 2 ^ hbits w) where
  pub natural_fits : SFits w z
  natural_fits = rw e (record { sfits = h })

  pub natural_is : nat_abs (to_z w (of_z w z)) ≡ n
  natural_is = rw (e, to_z_pos w n h)

  pub natural_cast : T (non_neg (to_z w (of_z w z))) × Fits w (nat_abs (to_z w (of_z w z)))
  natural_cast = rw (e, to_z_pos w n h) (tt, record { fits = half_full w h })

-- ---- halving
magnitude_half : (n : ℕ) (H : ℕ) → n < H → (k : ℕ) → k ≤ n → mag (neg_ℤ (pos k)) < H
magnitude_half n H h zero g = omega arith
magnitude_half n H h (suc k) g = omega arith

pub quot_fits : (w : Width) (t : ℤ) → SFits w t → SFits w (quot_z t (pos 2))
quot_fits w (pos n) f = record { sfits = let g = f.sfits in omega arith }
quot_fits w (negsuc n) f = record { sfits = magnitude_half n (2 ^ hbits w) f.sfits (suc n / 2) (omega arith) }

pub half_above : (t : ℤ) → T (lt_z (pos 0) t) → t -ℤ quot_z t (pos 2) ≡ half_up t
half_above (pos n) h = omega (arith, order, sub_nat (pos n) (pos (n / 2)), half_nat (pos n))
half_above (negsuc n) h = absurd h

pub half_below : (t : ℤ) → T (not (lt_z (pos 0) t)) → quot_z t (pos 2) ≡ half_up t
unfolding half_up
half_below (pos n) h = let z : n ≡ 0 = omega (arith, order) in rw z
half_below (negsuc n) h = refl

pub half_fits : (w : Width) (t : ℤ) → SFits w t → SFits w (half_up t)
unfolding half_up
half_fits w (pos n) f = record { sfits = let g = f.sfits in omega arith }
half_fits w (negsuc n) f = quot_fits w (negsuc n) f

-- the same of words
module _ (w : Width) (t : ℤ) (f : SFits w t) where
  pub word_quot_fits : SFits w (quot_z (to_z w (of_z w t)) (pos 2))
  word_quot_fits = rw (to_z-of_z w t f) (quot_fits w t f)

  pub word_half_above : lt_z (pos 0) (to_z w (of_z w t)) ≡ true → to_z w (of_z w t) -ℤ to_z w (of_z w (quot_z (to_z w (of_z w t)) (pos 2))) ≡ half_up t
  word_half_above e =
      rw (to_z-of_z w t f, to_z-of_z w (quot_z t (pos 2)) (quot_fits w t f)) (half_above t (is_true (lt_z (pos 0) t) (rw (to_z-of_z w t f) at e)))

  pub word_half_below : lt_z (pos 0) (to_z w (of_z w t)) ≡ false → quot_z (to_z w (of_z w t)) (pos 2) ≡ half_up t
  word_half_below e = rw (to_z-of_z w t f) (half_below t (is_false (lt_z (pos 0) t) (rw (to_z-of_z w t f) at e)))

-- a result y that is z
module _ (w : Width) (y z : ℤ) (e : y ≡ z) (f : SFits w z) where
  pub result_fits : SFits w y
  result_fits = rw e f

  pub result_is : to_z w (of_z w y) ≡ z
  result_is = rw e (to_z-of_z w z f)

-- ---- a difference of natural numbers
module _ (m s : ℕ) (g : m < 2 ^ 62) (h : s < 2 ^ 62) where
  pub difference : to_z w64 m -ℤ to_z w64 s ≡ pos m -ℤ pos s
  difference = rw (to_z_pos w64 m (omega arith), to_z_pos w64 s (omega arith))

  pub difference_fits : SFits w64 (to_z w64 m -ℤ to_z w64 s)
  unfolding dist
  difference_fits = rw difference (word_fits w64 (pos m -ℤ pos s) (omega (arith, dist_nat (pos m) (pos s))))
