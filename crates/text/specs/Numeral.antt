-- Numbers as they are read (RULES "Numbers"): nine digits at most, and one way to write each number.
use Rattle.std.specs.Prelude.{ℕ, ◌+◌, ◌-◌, ◌*◌, Bool, cond, not, ◌&&◌, ◌||◌, leb, eqb, ℤ, pos, neg_ℤ, length, get_or, drop}
use mathlib.Core.List.{List, [], ◌∷◌, foldl}
use Rattle.std.proofs.Math.Option.{Option, none, some}
use Rattle.text.specs.Ascii.{minus, zero_digit, is_digit}

-- the digits that a text starts with
unfoldable pub digits : List ℕ → List ℕ
unfolding is_digit
digits [] = []
digits (b ∷ bs) = let more = b ∷ digits bs in cond (is_digit b) more []

-- the number that digits spell
unfoldable pub value_of : List ℕ → ℕ
value_of ds = foldl (λ value d. value * 10 + (d - 48)) 0 ds

-- 1 to 9 digits, of which the first is a zero only where it is the only one
unfoldable pub is_natural : List ℕ → Bool
is_natural ds = leb 1 (length ds) && leb (length ds) 9 && (eqb (length ds) 1 || not (eqb (get_or ds 0 0) zero_digit))

-- a number that is not negative, at the start of a text, and the text after it; none where the text starts with none
unfoldable pub natural : List ℕ → Option (ℤ × List ℕ)
unfolding digits is_natural value_of
natural bs = cond (is_natural (digits bs)) (some (pos (value_of (digits bs)), drop (length (digits bs)) bs)) none

-- what follows a `-`: a number, and not `0`
unfoldable pub negative : List ℕ → Option (ℤ × List ℕ)
unfolding digits is_natural value_of
negative bs = cond (is_natural (digits bs) && not (eqb (value_of (digits bs)) 0))
    (some (neg_ℤ (pos (value_of (digits bs))), drop (length (digits bs)) bs)) none

unfoldable pub number : List ℕ → Option (ℤ × List ℕ)
unfolding natural negative
number [] = none
number (b ∷ bs) = cond (eqb b minus) (negative bs) (natural (b ∷ bs))
