-- Numbers as they are written (RULES "Numbers"): decimal digits, with a `-` in front where negative.
use Rattle.std.specs.Prelude.{ℕ, zero, suc, ◌+◌, ◌/◌, ◌%◌, cond, List, [], ◌∷◌, ◌++◌, ltb, ℤ, pos, negsuc}
use Rattle.text.specs.Ascii.{minus, zero_digit}

-- the decimal digits of n, for n of at most so many digits
unfoldable pub decimal : ℕ → ℕ → List ℕ
decimal zero n = []
decimal (suc most) n = let more = decimal most (n / 10) ++ ((zero_digit + n % 10) ∷ []) in cond (ltb n 10) ((zero_digit + n) ∷ []) more

-- as many as they need; every number of 64 bits has at most 20
unfoldable pub spell_nat : ℕ → List ℕ
unfolding decimal
spell_nat n = decimal 20 n

unfoldable pub spell_int : ℤ → List ℕ
unfolding spell_nat
spell_int (pos n) = spell_nat n
spell_int (negsuc n) = minus ∷ spell_nat (suc n)
