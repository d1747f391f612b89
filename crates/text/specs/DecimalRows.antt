-- Rows: numbers as they are written (RULES "Numbers"), each with its digits, up to the largest cost and the largest number of 64 bits; and
-- a law of all of them that does not follow the definition's steps.
use Rattle.std.specs.Prelude.{ℕ, ◌≤◌, ◌<◌, ◌^◌, ◌≡◌, ◌≢◌, List, negsuc, length, get_or}
use Rattle.text.specs.Ascii.{bytes, zero_digit}
use Rattle.text.specs.Numeral.{digits, value_of}
use Rattle.text.specs.Decimal.{spell_nat, spell_int}

-- the digits of n: their value, and no zero in front
pub record DigitsOf (n : ℕ) (ds : List ℕ) : Type 0 where
  pub all_digits : digits ds ≡ ds
  pub value : value_of ds ≡ n
  pub some_digit : 1 ≤ length ds
  pub first_digit : 1 ≤ n → get_or ds 0 0 ≢ zero_digit

pub record DecimalRows : Type 0 where
  pub zero_alone : spell_nat 0 ≡ bytes "0"
  pub six_digits : spell_nat 999999 ≡ bytes "999999"
  pub seven_digits : spell_nat 1000000 ≡ bytes "1000000"
  pub seven_in_order : spell_nat 1234567 ≡ bytes "1234567"
  pub all_ten : spell_nat 9876543210 ≡ bytes "9876543210"
  pub all_ten_back : spell_nat 1023456789 ≡ bytes "1023456789"
  -- the largest cost, and the number as far below 0
  pub most_cost : spell_nat 24158822400000 ≡ bytes "24158822400000"
  pub most_below_zero : spell_int (negsuc 24158822399999) ≡ bytes "-24158822400000"
  -- one more than 2 ^ 53, and the largest number of 64 bits
  pub past_53_bits : spell_nat 9007199254740993 ≡ bytes "9007199254740993"
  pub most_word : spell_nat 18446744073709551615 ≡ bytes "18446744073709551615"
  -- every number of at most 20 digits
  pub each_number : (n : ℕ) → n < 10 ^ 20 → DigitsOf n (spell_nat n)
