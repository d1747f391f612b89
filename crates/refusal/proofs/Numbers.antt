-- How large the number of a refusal can be, also where it has a line; and its number and line tell which it is.
use Prim.Native.Nat.{ℕ, ◌≤◌}
use mathlib.Core.Path.{◌≡◌, refl, sym, ap, ◌∙◌}
use mathlib.Core.Bool.{cond}
use mathlib.Core.Logic.{◌⊎◌, inl, inr}
use native.Mathlib.Omega.{arith}
use lib.Dec.{eqb}
use Rattle.refusal.specs.Refusal.{number_of, line_of}
use Rattle.refusal.specs.declared.Refusal.{Refusal}
use Rattle.refusal.specs.declared.Refusal.TheVariants.{TooLong, Malformed, OutOfRange, EmptyArea, NoPosts, NoStops, SmallSpace}
use Rattle.refusal.specs.declared.Refusal.TheVariants.{ShortOutput, NotHeld, Full}

pub number_most : (why : Refusal) → number_of why ≤ 10
number_most TooLong = omega arith
number_most (Malformed line) = omega arith
number_most (OutOfRange line) = omega arith
number_most EmptyArea = omega arith
number_most NoPosts = omega arith
number_most NoStops = omega arith
number_most SmallSpace = omega arith
number_most ShortOutput = omega arith
number_most NotHeld = omega arith
number_most Full = omega arith

-- the number has one digit, or the line is 0
pub one_digit : (why : Refusal) → (number_of why ≤ 9) ⊎ (line_of why ≡ 0)
one_digit TooLong = inr refl
one_digit (Malformed line) = inl (omega arith)
one_digit (OutOfRange line) = inl (omega arith)
one_digit EmptyArea = inr refl
one_digit NoPosts = inr refl
one_digit NoStops = inr refl
one_digit SmallSpace = inr refl
one_digit ShortOutput = inr refl
one_digit NotHeld = inr refl
one_digit Full = inr refl

-- the refusal with a number and a line
abbrev why_of : ℕ → ℕ → Refusal
why_of number line = cond (eqb number 1) TooLong (cond (eqb number 2) (Malformed line)
    (cond (eqb number 3) (OutOfRange line) (cond (eqb number 4) EmptyArea
    (cond (eqb number 5) NoPosts (cond (eqb number 6) NoStops (cond (eqb number 7) SmallSpace
    (cond (eqb number 8) ShortOutput (cond (eqb number 9) NotHeld Full))))))))

why_of_lem : (why : Refusal) → why_of (number_of why) (line_of why) ≡ why
why_of_lem TooLong = refl
why_of_lem (Malformed line) = refl
why_of_lem (OutOfRange line) = refl
why_of_lem EmptyArea = refl
why_of_lem NoPosts = refl
why_of_lem NoStops = refl
why_of_lem SmallSpace = refl
why_of_lem ShortOutput = refl
why_of_lem NotHeld = refl
why_of_lem Full = refl

pub number_and_line_lem : (why why' : Refusal) → number_of why ≡ number_of why' → line_of why ≡ line_of why' → why ≡ why'
number_and_line_lem why why' e f = sym (why_of_lem why) ∙ ap (λ (n : ℕ). why_of n (line_of why)) e ∙ ap (why_of (number_of why')) f ∙ why_of_lem why'
