-- What the functions of this crate answer, as the definitions of `Numeral` have it: of the public ones `behind` and `number_read`.
use Rattle.std.specs.Prelude.{ℕ, ◌-◌, ◌<◌, ◌^◌, min, ◌≡◌, Bool, true, false, cond, ◌&&◌, List, [], ◌∷◌, eqb, ℤ, pos, length}
use Rattle.std.specs.Prelude.{drop, take, Option, Some, None, option_map}
use Rattle.std.specs.Borrow.{Bor}
use Rattle.std.proofs.Math.Option as Text
use Rattle.text.specs.Ascii.{is_digit}
use Rattle.text.specs.Numeral.{digits, value_of}

-- whether a text starts with these bytes
unfoldable pub starts_with : List ℕ → List ℕ → Bool
starts_with [] bs = true
starts_with (k ∷ ks) [] = false
starts_with (k ∷ ks) (b ∷ bs) = eqb b k && starts_with ks bs

-- the text after these bytes, where it starts with them
abbrev pub behind : List ℕ → List ℕ → Option (List ℕ)
behind key text = cond (starts_with key text) (Some (drop (length key) text)) None

-- the digit that a text starts with, and the text after it
unfoldable pub first_digit : List ℕ → Option (ℕ × List ℕ)
unfolding is_digit
first_digit [] = None
first_digit (b ∷ bs) = cond (is_digit b) (Some (b - 48, bs)) None

pub record FirstDigit (text : List ℕ) (result : Option (ℕ × Bor (List ℕ))) : Type 0 where
  pub is : option_map (λ p. (p.0, p.1.now)) result ≡ first_digit text

-- how many digits a text starts with, ten at most, and the number that they spell
pub record FirstDigits (text : List ℕ) (count value : ℕ) : Type 0 where
  pub count_is : count ≡ min 10 (length (digits text))
  pub value_is : value ≡ value_of (take count (digits text))
  pub below : value < 10 ^ count

-- an answer as the definitions have it: the number and the text after it
abbrev pub natural_read : Option (ℕ × Bor (List ℕ)) → Text.Option (ℤ × List ℕ)
natural_read (Some r) = Text.some (pos r.0, r.1.now)
natural_read None = Text.none

abbrev pub number_read : Option (ℤ × Bor (List ℕ)) → Text.Option (ℤ × List ℕ)
number_read (Some r) = Text.some (r.0, r.1.now)
number_read None = Text.none
