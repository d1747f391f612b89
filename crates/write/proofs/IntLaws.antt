-- How a signed number z is spelled, by what the code has of it: z as it is read back from its bits, the outcome of the test z < 0, and the absolute value n.
use mathlib.Core.Path.{◌≡◌, refl, sym, ap, ◌∙◌}
use mathlib.Core.Bool.{Bool, true, false}
use native.Mathlib.Omega.{arith}
use lib.ListN.{length, drop, set, drop_of_length-le}
use borrow.Rule.Slice.PartMut.{put_mid}
use Prim.Native.Nat.{ℕ, ◌+◌, ◌-◌, ◌<◌}
use mathlib.Core.List.{List, [], ◌∷◌, append-nil}
use lib.IntN.{ℤ, pos, negsuc, nat_abs}
use lib.Signed.{lt_z}
use mir.Syntax.{w64}
use mir.Val.{SFits, to_z, of_z, bool_byte}
use mir.ValLaws.{to_z-of_z}
use Rattle.text.specs.Ascii.{minus}
use Rattle.text.specs.Decimal.{spell_nat, spell_int}
use Rattle.text.proofs.DigitCounts.{length_spell_nat_grows, length_one, spell_int_non_neg, spell_int_negative}

pub non_negative : (z : ℤ) (n : ℕ) → SFits w64 z → lt_z (to_z w64 (of_z w64 z)) (pos 0) ≡ false → n ≡ nat_abs (to_z w64 (of_z w64 z))
    → spell_int z ≡ spell_nat n
non_negative z n f t e =
    let m : n ≡ nat_abs z = rw (to_z-of_z w64 z f) at e in
    rw m (spell_int_non_neg z (rw (to_z-of_z w64 z f) at t))

negative : (z : ℤ) (n : ℕ) → SFits w64 z → lt_z (to_z w64 (of_z w64 z)) (pos 0) ≡ true → n ≡ nat_abs (to_z w64 (of_z w64 z))
    → spell_int z ≡ minus ∷ spell_nat n
negative z n f t e =
    let m : n ≡ nat_abs z = rw (to_z-of_z w64 z f) at e in
    rw m (spell_int_negative z (rw (to_z-of_z w64 z f) at t))

-- the digits, and the sign of a negative number
pub int_length : (z : ℤ) (n : ℕ) → SFits w64 z → n ≡ nat_abs (to_z w64 (of_z w64 z))
    → length (spell_nat n) + bool_byte (lt_z (to_z w64 (of_z w64 z)) (pos 0)) ≡ length (spell_int z)
int_length z n f e = go (lt_z (to_z w64 (of_z w64 z)) (pos 0)) refl
  where
    go : (b : Bool) → lt_z (to_z w64 (of_z w64 z)) (pos 0) ≡ b → length (spell_nat n) + bool_byte b ≡ length (spell_int z)
    go true t = rw (negative z n f t e) (omega arith)
    go false t = rw (non_negative z n f t e) (omega arith)

-- the `-` at the first place, and the digits over the rest
signed : {digits : List ℕ} (out ds : List ℕ) → 0 < length out → digits ≡ ds →
    put_mid 1 (length (set out 0 minus) - 1) (set out 0 minus) digits ≡ minus ∷ ds
signed [] ds h e = absurd (omega arith)
signed {digits} (x ∷ xs) ds h e =
    let none : drop (length (minus ∷ xs) - 1) xs ≡ [] = drop_of_length-le xs {i = length (minus ∷ xs) - 1} (omega arith) in
    rw (none, append-nil digits, e) refl

-- there is a byte at least
pub int_some : (z : ℤ) → 0 < length (spell_int z)
unfolding spell_int
int_some (pos n) = omega (arith, length_spell_nat_grows 0 n (omega arith), length_one 0 (omega arith))
int_some (negsuc n) = omega arith

module _ (z : ℤ) (n : ℕ) where
  pub negative_length : SFits w64 z → lt_z (to_z w64 (of_z w64 z)) (pos 0) ≡ true → n ≡ nat_abs (to_z w64 (of_z w64 z)) →
      length (spell_int z) ≡ length (spell_nat n) + 1
  negative_length f t e = rw (negative z n f t e) (omega arith)

  -- the `-` at the first place, and the digits over what is behind it
  pub negative_spelled : {digits : List ℕ} (out : List ℕ) → SFits w64 z → lt_z (to_z w64 (of_z w64 z)) (pos 0) ≡ true →
      n ≡ nat_abs (to_z w64 (of_z w64 z)) → length out ≡ length (spell_int z) → digits ≡ spell_nat n →
      put_mid 1 (length (set out 0 minus) - 1) (set out 0 minus) digits ≡ spell_int z
  negative_spelled out f t e l d =
      signed out (spell_nat n) (omega (arith, l, ap length (negative z n f t e))) d ∙ sym (negative z n f t e)
