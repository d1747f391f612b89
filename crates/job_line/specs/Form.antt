-- Forms: how a text starts. A form gives what it reads and the text after it, or nothing where the text does not start so.
use Rattle.std.specs.Prelude.{ℕ, cond, List, [], ◌∷◌, eqb, ℤ}
use Rattle.std.proofs.Math.Option.{Option, none, some, bind}
use Rattle.text.specs.Numeral.{number}

abbrev pub Form : Type 0 → Type 0
Form A = List ℕ → Option (A × List ℕ)

-- one form after another
infixl 20 ◌>>=◌
unfoldable pub ◌>>=◌ : {A B : Type 0} → Form A → (A → Form B) → Form B
unfolding bind
(first >>= next) bs = bind (first bs) (λ r. next r.0 r.1)

infixl 20 ◌>>◌
unfoldable pub ◌>>◌ : {A B : Type 0} → Form A → Form B → Form B
unfolding ◌>>=◌
first >> next = first >>= (λ a. next)

-- nothing read
unfoldable pub return : {A : Type 0} → A → Form A
return a bs = some (a, bs)

-- one byte
unfoldable pub byte : ℕ → Form (Unit {0})
byte b [] = none
byte b (c ∷ cs) = cond (eqb c b) (some (tt, cs)) none

-- these bytes
unfoldable pub key : List ℕ → Form (Unit {0})
unfolding byte return ◌>>◌
key [] = return tt
key (b ∷ bs) = byte b >> key bs

-- a number and the byte that ends it
unfoldable pub field : ℕ → Form ℤ
unfolding byte number return ◌>>◌ ◌>>=◌
field end = do
  n ← number
  byte end
  return n
