-- What reading finds in lines that numbers were spelled in (RULES "Refusals", "Change 1"): their first refusal, by the numbers themselves.
use Rattle.std.specs.Prelude as Std
use Rattle.std.specs.Prelude.{Ok, Err, ℕ, ◌+◌, Bool, true, cond, ◌&&◌, List, [], ◌∷◌, ltb, ℤ, nat_abs}
use Rattle.std.proofs.Math.Option.{Option, none, some}
use Rattle.query.specs.Place.{Rect}
use Rattle.job_line.specs.Kinds.{Range, row, in_ranges}
use Rattle.job.specs.Format.{Result, refused, accepted, check_parts}
use Rattle.job.specs.Spelling.{JobLine}
use Rattle.refusal.specs.declared.Refusal.{Refusal}
use Rattle.refusal.specs.declared.Refusal.TheVariants.{Malformed, OutOfRange}

-- nine digits at most (RULES "Numbers")
unfoldable pub short : ℤ → Bool
short z = ltb (nat_abs z) 1000000000

unfoldable pub all_short : List ℤ → Bool
unfolding short
all_short [] = true
all_short (z ∷ zs) = short z && all_short zs

-- the refusal of line n, by whether its numbers are short and in range: 2, then 3
abbrev pub tested_fault : Bool → Bool → ℕ → Option Refusal
tested_fault short in_range n = cond short (cond in_range none (some (OutOfRange n))) (some (Malformed n))

-- and where these numbers are spelled in it
unfoldable pub numbers_fault : List Range → ℕ → List ℤ → Option Refusal
unfolding all_short in_ranges
numbers_fault ranges n ns = tested_fault (all_short ns) (in_ranges ranges ns) n

abbrev pub line_fault : ℕ → JobLine → Option Refusal
line_fault n l = numbers_fault (row l.kind).ranges n l.numbers

abbrev pub or_else : Option Refusal → Option Refusal → Option Refusal
or_else none later = later
or_else (some why) later = some why

-- of the first line that has one, counted from n
unfoldable pub first_fault : ℕ → List JobLine → Option Refusal
unfolding numbers_fault
first_fault n [] = none
first_fault n (l ∷ ls) = or_else (line_fault n l) (first_fault (n + 1) ls)

-- the refusal of a reading
abbrev pub refusal_in : Result → Option Refusal
refusal_in (refused why) = some why
refusal_in (accepted job) = none

-- what the functions of this crate answer
abbrev pub checked_as : Std.Result (Unit {0}) Refusal → Option Refusal
checked_as (Ok u) = none
checked_as (Err why) = some why

-- refusals 4, 5 and 6 of an area and of so many posts and stops
unfoldable pub parts_fault : Rect → ℕ → ℕ → Option Refusal
unfolding check_parts
parts_fault r posts stops = checked_as (check_parts r posts stops)
