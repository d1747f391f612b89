-- What `text::digits` owes.
use native.Mathlib.Omega.{arith}
use Rattle.text.proofs.DigitLaws.{scanned_none, scanned_stop, scanned_more, scanned_small}
use Rattle.text.proofs.digits.Goals as goal

pub loop-count-init : goal.loop-count-init
loop-count-init c = scanned_none

pub returns-in_default : goal.returns-in_default
returns-in_default c = scanned_stop c.loop-count.invariant c.in_default.ensures (omega arith)

pub overflow_add-value : goal.overflow_add-value
overflow_add-value c =
    record { fits = omega (arith, scanned_small (scanned_more c.loop-count.invariant c.in-Some.ensures) (omega arith)) }

pub loop-count-preserved : goal.loop-count-preserved
loop-count-preserved c = scanned_more c.loop-count.invariant c.in-Some.ensures
