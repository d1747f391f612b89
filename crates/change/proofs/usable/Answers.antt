-- What `change::usable` owes.
use Rattle.change.proofs.UsableLaws.{usable_refused, usable_fine}
use Rattle.change.proofs.usable.Goals as goal

pub returns-then-is_ok-clause-value : goal.returns-then-is_ok-clause-value
returns-then-is_ok-clause-value c = usable_fine _ _ c.check.ensures.refusal c.is_ok.ensures.value c.if-is_ok.true c.all_travels.ensures

pub returns-else-is_ok-clause-value : goal.returns-else-is_ok-clause-value
returns-else-is_ok-clause-value c = usable_refused _ _ c.check.ensures.refusal c.is_ok.ensures.value c.if-is_ok.false
