-- What `text::digit` owes.
use mathlib.Core.Path.{sym}
use Rattle.text.specs.Ascii.{is_digit}
use Rattle.text.proofs.DigitLaws.{digit_past, digit_found, digit_other}
use Rattle.text.proofs.digit.Goals as goal

pub returns-in_err-b : goal.returns-in_err-b
returns-in_err-b c = rw c.from_residual.ensures (digit_past _ c.in_err-b.ensures.cases)

pub returns-then-is_ascii_digit : goal.returns-then-is_ascii_digit
unfolding is_digit
returns-then-is_ascii_digit c = digit_found c.in_ok-b.ensures.cases.0 (sym c.if-is_ascii_digit.ensures.value)

pub returns-else-is_ascii_digit : goal.returns-else-is_ascii_digit
unfolding is_digit
returns-else-is_ascii_digit c = digit_other c.in_ok-b.ensures.cases.0 (sym c.if-is_ascii_digit.ensures.value)
