-- What `text::negative` owes.
use Rattle.text.proofs.SignLaws.{negative_none, negative_zero, negative_some, negative_small}
use Rattle.text.proofs.negative.Goals as goal

pub returns-in_err-n-clause-number : goal.returns-in_err-n-clause-number
returns-in_err-n-clause-number c = rw c.from_residual.ensures (negative_none _ c.in_err-n.ensures.number)

pub returns-then-n-eq0-clause-number : goal.returns-then-n-eq0-clause-number
returns-then-n-eq0-clause-number c = negative_zero _ c.in_ok-n.ensures.number c.if-n-eq0.true

pub returns-clause-number : goal.returns-clause-number
returns-clause-number c = negative_some _ c.in_ok-n.ensures.number c.in_ok-n.ensures.nine_digits c.if-n-eq0.false

pub returns-clause-nine_digits : goal.returns-clause-nine_digits
returns-clause-nine_digits c = negative_small c.in_ok-n.ensures.nine_digits
