-- What pricing computes with, as words: casts of a row's numbers, and its near beside a travel.
use mathlib.Core.Path.{◌≡◌, ap, ◌∙◌}
use mathlib.Core.Bool.{true, false}
use Prim.Native.Nat.{ℕ, ◌-◌, ◌^◌, ◌≤◌, ◌<◌, min}
use native.Mathlib.Omega.{arith}
use lib.Dec.{T}
use lib.IntN.{ℤ, pos, nat_abs, ◌-ℤ◌}
use lib.Signed.{lt_z, non_neg, ◌≤ℤ◌}
use mir.Syntax.{w32}
use mir.Val.{Fits}
use Rattle.std.specs.Int.{int_min}
use Rattle.std.proofs.lemmas.Int.{ints, clamps}
use Rattle.numbers.proofs.Integer.{order, sub_nat}
use Rattle.numbers.proofs.Words.{is_true, is_false, natural_cast}
use Rattle.query.specs.Range.{travel_limit}
use Rattle.reach.specs.Columns.{ObjectInRange}
use Rattle.reach.proofs.NarrowLaws.{word, natural, number_word}

-- ---- a row: casts to an unsigned word
module _ {x y visits near : ℤ} (row : ObjectInRange x y visits near) where
  pub visits_cast : T (non_neg (word visits)) × Fits w32 (nat_abs (word visits))
  visits_cast = natural_cast w32 visits (nat_abs visits) (natural visits row.visits_some) (omega (arith, row.visits_range))

  pub near_cast : T (non_neg (word near)) × Fits w32 (nat_abs (word near))
  near_cast = natural_cast w32 near (nat_abs near) (natural near row.near_some) (omega (arith, row.near_range))

-- ---- near and a travel
least : (a b : ℕ) → int_min (pos a) (pos b) ≡ pos (min b a)
least a b = omega (arith, ints, clamps)

module _ (near t : ℤ) (some : pos 0 ≤ℤ near) (most : nat_abs near ≤ travel_limit) (positive : pos 0 ≤ℤ t) (small : nat_abs t ≤ travel_limit) where
  near_is : word near ≡ pos (nat_abs near)
  near_is = number_word near most ∙ natural near some

  t_is : word t ≡ pos (nat_abs t)
  t_is = number_word t small ∙ natural t positive

  -- the smaller of both
  pub smaller : (m : ℤ) → m ≡ int_min (word t) (word near) → nat_abs (word m) ≡ min (nat_abs near) (nat_abs t)
  smaller m em =
      let m_is : m ≡ pos (min (nat_abs near) (nat_abs t)) = em ∙ (λ i. int_min (t_is i) (near_is i)) ∙ least (nat_abs t) (nat_abs near) in
      rw m_is (ap nat_abs (number_word (pos (min (nat_abs near) (nat_abs t))) (omega arith)))

  -- how far the travel is below near
  pub below_is : lt_z (word t) (word near) ≡ true → word near -ℤ word t ≡ pos (nat_abs near - nat_abs t)
  below_is e = rw (near_is, t_is) (go (nat_abs near) (nat_abs t) (rw (near_is, t_is) at e))
    where
      go : (n m : ℕ) → lt_z (pos m) (pos n) ≡ true → pos n -ℤ pos m ≡ pos (n - m)
      go n m h = let less = is_true (lt_z (pos m) (pos n)) h in omega (arith, order, sub_nat (pos n) (pos m))

  pub below_none : lt_z (word t) (word near) ≡ false → pos 0 ≡ pos (nat_abs near - nat_abs t)
  below_none e = ap pos (go (nat_abs near) (nat_abs t) (rw (near_is, t_is) at e))
    where
      go : (n m : ℕ) → lt_z (pos m) (pos n) ≡ false → 0 ≡ n - m
      go n m h = let less = is_false (lt_z (pos m) (pos n)) h in omega (arith, order)

  pub below_small : nat_abs near - nat_abs t < 2 ^ 31
  below_small = omega arith
