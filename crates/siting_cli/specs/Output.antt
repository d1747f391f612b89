-- What the program leaves in its output for the bytes of its input, where these are known (RULES "Calls", "Report").
use Rattle.std.specs.Prelude.{ℕ, List, Option, IfSome}
use Rattle.std.specs.Io.KnownBytes.{Appends, Consumes}
use Rattle.siting_cli.specs.declared.Filled.{Filled}
use Rattle.siting_cli.specs.declared.Filled.TheVariants.{Whole, Part}
use Rattle.calls.specs.Program.{answer_text}

-- how many bytes were read
abbrev pub count_in : Filled → ℕ
count_in (Whole n) = n
count_in (Part n) = n

-- the text for all bytes of the input is written
abbrev pub AnswersAll : Option (List ℕ) → Option (List ℕ) → Option (List ℕ) → Type 0
AnswersAll input old new = IfSome input (λ job. Appends old new (answer_text job))

-- the text for just the bytes that were read is written: the input's first ones, behind which stands what is left of it
abbrev pub AnswersRead : Option (List ℕ) → Option (List ℕ) → Option (List ℕ) → Option (List ℕ) → Type 0
AnswersRead input left old new = (bytes : List ℕ) × Consumes input left bytes × Appends old new (answer_text bytes)
