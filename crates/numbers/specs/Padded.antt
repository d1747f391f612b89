-- A list at the front of an array.
use Rattle.std.specs.Prelude.{ℕ, ◌-◌, List, ◌++◌, length, replicate}

-- a list at the front of an array of so many elements, with z behind it
unfoldable pub padded : {A : Type 0} → ℕ → A → List A → List A
padded size z xs = xs ++ replicate (size - length xs) z
