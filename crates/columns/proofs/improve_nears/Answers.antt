-- What `columns::improve_nears` owes.
use Rattle.columns.proofs.CopyLaws.{copied_none}
use Rattle.columns.proofs.SoFarLaws.{better_more, better_all, place_row}
use Rattle.columns.proofs.improve_nears.Goals as goal

pub loop-stop-init : goal.loop-stop-init
loop-stop-init c = copied_none _ _ _ _

pub invariant_of-at : goal.invariant_of-at
invariant_of-at c = record { in_range = place_row c.requires _ c.loop-stop.invariant c.loop-stop-test.true }

pub loop-stop-preserved : goal.loop-stop-preserved
loop-stop-preserved c =
    better_more c.requires _ c.loop-stop.invariant _ c.loop-stop-test.true (record { sfits = c.closer.type_inv })
    (record { sfits = c.closer-arg-1.given }) c.closer.ensures

pub returns : goal.returns
returns c = better_all c.requires _ c.loop-stop.invariant c.loop-stop-test.false
