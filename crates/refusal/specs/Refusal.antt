-- The number and the line of each reason for a refusal (RULES "Refusals").
use Rattle.std.specs.Prelude.{ℕ}
use Rattle.refusal.specs.declared.Refusal.{Refusal}
use Rattle.refusal.specs.declared.Refusal.TheVariants.{TooLong, Malformed, OutOfRange, EmptyArea, NoPosts, NoStops, SmallSpace}
use Rattle.refusal.specs.declared.Refusal.TheVariants.{ShortOutput, NotHeld, Full}

abbrev pub number_of : Refusal → ℕ
number_of TooLong = 1
number_of (Malformed line) = 2
number_of (OutOfRange line) = 3
number_of EmptyArea = 4
number_of NoPosts = 5
number_of NoStops = 6
number_of SmallSpace = 7
number_of ShortOutput = 8
number_of NotHeld = 9
number_of Full = 10

-- counted from 1; 0 where the job has no line at fault
abbrev pub line_of : Refusal → ℕ
line_of TooLong = 0
line_of (Malformed line) = line
line_of (OutOfRange line) = line
line_of EmptyArea = 0
line_of NoPosts = 0
line_of NoStops = 0
line_of SmallSpace = 0
line_of ShortOutput = 0
line_of NotHeld = 0
line_of Full = 0
