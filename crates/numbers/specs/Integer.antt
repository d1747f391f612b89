-- Whole numbers ℤ: what the rules need of them beside the library's `◌+ℤ◌`, `◌-ℤ◌`, `nat_abs`, `le_z` and `lt_z`.
use Rattle.std.specs.Prelude.{ℕ, suc, ◌+◌, ◌/◌, Bool, false, cond, ◌&&◌, eqb, ℤ, pos, negsuc, neg_ℤ, nat_abs, ◌-ℤ◌, ◌*ℤ◌}
use Rattle.std.specs.Int.Signed.{le_z, lt_z}

-- the test of equality beside the library's `le_z` and `lt_z`
abbrev pub eq_z : ℤ → ℤ → Bool
eq_z (pos m) (pos n) = eqb m n
eq_z (pos m) (negsuc n) = false
eq_z (negsuc m) (pos n) = false
eq_z (negsuc m) (negsuc n) = eqb m n

-- |u − v|
unfoldable pub dist : ℤ → ℤ → ℕ
dist u v = nat_abs (u -ℤ v)

-- k × z
unfoldable pub times : ℕ → ℤ → ℤ
times k z = pos k *ℤ z

-- lo ≤ v ≤ hi
unfoldable pub between : ℤ → ℤ → ℤ → Bool
between lo hi v = le_z lo v && le_z v hi

-- lo < v < hi
unfoldable pub strictly_between : ℤ → ℤ → ℤ → Bool
strictly_between lo hi v = lt_z lo v && lt_z v hi

-- the number of lo .. hi that is closest to v, where lo ≤ hi
unfoldable pub clamp : ℤ → ℤ → ℤ → ℤ
clamp lo hi v = cond (lt_z v lo) lo (cond (lt_z hi v) hi v)

-- half of z, rounded towards plus infinity (RULES "Corner bound")
unfoldable pub half_up : ℤ → ℤ
half_up (pos n) = pos ((n + 1) / 2)
half_up (negsuc n) = neg_ℤ (pos (suc n / 2))
