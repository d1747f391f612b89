-- What `text::number` owes.
use mathlib.Core.Path.{◌∙◌}
use Rattle.text.proofs.KeyLaws.{byte_there, byte_missing}
use Rattle.text.proofs.SignLaws.{number_negative, number_none, number_some}
use Rattle.text.proofs.number.Goals as goal

pub returns-in-Some-clause-number : goal.returns-in-Some-clause-number
returns-in-Some-clause-number c = c.negative.ensures.number ∙ number_negative (byte_there _ _ _ c.in-Some.ensures)

pub returns-in_err-n-clause-number : goal.returns-in_err-n-clause-number
returns-in_err-n-clause-number c =
    rw c.from_residual.ensures (number_none _ (byte_missing _ _ c.in_default.ensures) c.in_err-n.ensures.number)

pub returns-clause-number : goal.returns-clause-number
returns-clause-number c = number_some _ (byte_missing _ _ c.in_default.ensures) c.in_ok-n.ensures.nine_digits c.in_ok-n.ensures.number
