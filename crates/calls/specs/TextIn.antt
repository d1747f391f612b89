-- The text of the program (RULES "Calls") as the code holds it, in an array.
use Rattle.std.specs.Prelude.{ℕ, ◌≡◌, ◌≤◌, List, take}
use Rattle.numbers.specs.Padded.{padded}
use Rattle.report.specs.Limits.{output_size}

-- the first n bytes of the array are the text, and behind it stand zeros
pub record TextIn (bytes : List ℕ) (n : ℕ) : Type 0 where
  pub few : n ≤ output_size
  pub rest : bytes ≡ padded output_size 0 (take n bytes)
