-- What `search::halves::parts` owes.
use Rattle.search.proofs.CutParts.{parts_are}
use Rattle.search.proofs.halves.parts.Goals as goal

pub returns : goal.returns
returns c =
    parts_are _ _ _ _ c.parts-figures.ensures _ _ (rw c.low.ensures at c.with_cost.ensures) (rw c.high.ensures at c.with_cost-2.ensures)
