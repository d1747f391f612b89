-- A number with its sign: from the digits to the value that 64 bits hold, and to the definitions `negative` and `number`.
use mathlib.Core.Path.{◌≡◌, refl, sym, ap, ◌∙◌}
use mathlib.Core.Bool.{Bool, true, false, not, cond, ◌&&◌}
use mathlib.Core.List.{List, [], ◌∷◌}
use mathlib.Core.Option.{Option, none, some}
use Prim.Native.Nat.{ℕ, zero, suc, ◌<◌, ◌^◌}
use native.Mathlib.Omega.{arith}
use borrow.Author.Tests.{eq-eqb, ne_eqb}
use lib.Dec.{eqb}
use lib.IntN.{ℤ, pos, neg_ℤ, nat_abs, ◌-ℤ◌, +ℤ_idl}
use lib.ListN.{length, drop}
use lib.Signed.{mag}
use mir.Syntax.{w64}
use mir.Val.{SFits, of_z, to_z}
use mir.ValLaws.{to_z_pos, to_z-of_z}
use Rattle.text.specs.Ascii.{minus}
use Rattle.text.specs.Numeral.{digits, value_of, is_natural, natural, negative, number}
use Rattle.text.specs.TextReading.{starts_with}

-- ---- a number of at most nine digits in 64 bits
mag_neg : (n : ℕ) → n < 10 ^ 9 → mag (neg_ℤ (pos n)) < 2 ^ 63
mag_neg zero h = omega arith
mag_neg (suc n) h = omega arith

abs_neg : (n : ℕ) → nat_abs (neg_ℤ (pos n)) ≡ n
abs_neg zero = refl
abs_neg (suc n) = refl

module _ (n : ℕ) (h : n < 10 ^ 9) where
  pub pos_bits : to_z w64 n ≡ pos n
  pos_bits = to_z_pos w64 n (omega arith)

  neg_value : pos 0 -ℤ to_z w64 n ≡ neg_ℤ (pos n)
  neg_value = rw pos_bits (+ℤ_idl (neg_ℤ (pos n)))

  pub neg_fits : SFits w64 (pos 0 -ℤ to_z w64 n)
  neg_fits = rw neg_value (record { sfits = mag_neg n h })

  pub neg_bits : to_z w64 (of_z w64 (pos 0 -ℤ to_z w64 n)) ≡ neg_ℤ (pos n)
  neg_bits = to_z-of_z w64 _ neg_fits ∙ neg_value

-- ---- `negative`
-- what `negative` makes of what `natural` reads
negated : Option (ℤ × List ℕ) → Option (ℤ × List ℕ)
negated none = none
negated (some r) = cond (not (eqb (nat_abs r.0) 0)) (some (neg_ℤ r.0, r.1)) none

negative_is : (bs : List ℕ) → negative bs ≡ negated (natural bs)
unfolding negative natural negated
negative_is bs = go (is_natural (digits bs))
  where
    go : (t : Bool) → cond (t && not (eqb (value_of (digits bs)) 0)) (some (neg_ℤ (pos (value_of (digits bs))), drop (length (digits bs)) bs)) none ≡ negated
        (cond t (some (pos (value_of (digits bs)), drop (length (digits bs)) bs)) none)
    go true = refl
    go false = refl

pub negative_none : (bs : List ℕ) → none ≡ natural bs → none ≡ negative bs
unfolding negated
negative_none bs e = ap negated e ∙ sym (negative_is bs)

module _ (bs : List ℕ) {n : ℕ} {rest : List ℕ} (is : some (pos n, rest) ≡ natural bs) where
  pub negative_zero : n ≡ 0 → none ≡ negative bs
  unfolding negated
  negative_zero z = sym (ap (λ t. cond (not t) (some (neg_ℤ (pos n), rest)) none) (eq-eqb n 0 z)) ∙ ap negated is ∙ sym (negative_is bs)

  pub negative_some : n < 10 ^ 9 → (n ≡ 0 → ⊥) → some (to_z w64 (of_z w64 (pos 0 -ℤ to_z w64 n)), rest) ≡ negative bs
  unfolding negated
  negative_some h z =
      rw (neg_bits n h)
      (sym (ap (λ t. cond (not t) (some (neg_ℤ (pos n), rest)) none) (ne_eqb n 0 z)) ∙ ap negated is ∙ sym (negative_is bs))

pub negative_small : {n : ℕ} → n < 10 ^ 9 → nat_abs (to_z w64 (of_z w64 (pos 0 -ℤ to_z w64 n))) < 10 ^ 9
negative_small {n} h = rw (neg_bits n h, abs_neg n) h

-- ---- `number`
pub number_negative : {bs rest : List ℕ} → bs ≡ minus ∷ rest → negative rest ≡ number bs
unfolding number
number_negative e = sym (ap number e)

module _ (bs : List ℕ) (missing : starts_with (minus ∷ []) bs ≡ false) where
  number_is : natural bs ≡ number bs
  unfolding number starts_with
  number_is = go bs missing
    where
      other : (b : ℕ) (bs : List ℕ) (t : Bool) → (t && true) ≡ false → natural (b ∷ bs) ≡ cond t (negative bs) (natural (b ∷ bs))
      other b bs true e = let z : ◌≡◌ {A = ℕ} 0 1 = cc in absurd (omega arith)
      other b bs false e = refl

      go : (bs : List ℕ) → starts_with (minus ∷ []) bs ≡ false → natural bs ≡ number bs
      go [] e = refl
      go (b ∷ bs) e = other b bs (eqb b minus) e

  pub number_none : none ≡ natural bs → none ≡ number bs
  number_none e = e ∙ number_is

  pub number_some : {n : ℕ} {rest : List ℕ} → n < 10 ^ 9 → some (pos n, rest) ≡ natural bs → some (to_z w64 n, rest) ≡ number bs
  number_some {n} h e = rw (pos_bits n h) (e ∙ number_is)
