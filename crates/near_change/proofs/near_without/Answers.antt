-- What `near_change::near_without` owes.
use Rattle.near_change.proofs.ScaledLaws.{without_found, without_kept}
use Rattle.near_change.proofs.near_without.Goals as goal

pub returns-then-near-travel : goal.returns-then-near-travel
returns-then-near-travel c = without_found _ _ _ _ _ (rw c.axis.ensures at c.travel.ensures) c.if-near-travel.true c.closest_to.ensures

pub returns-else-near-travel : goal.returns-else-near-travel
returns-else-near-travel c = without_kept _ _ _ _ _ (rw c.axis.ensures at c.travel.ensures) c.if-near-travel.false
