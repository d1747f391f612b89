-- What `columns::start_nears` owes.
use Rattle.columns.specs.ClosestSoFar.{columns_so_far}
use Rattle.columns.proofs.CopyLaws.{copied_none, copied_all}
use Rattle.columns.proofs.SoFarLaws.{first_row, first_more}
use Rattle.columns.proofs.start_nears.Goals as goal

pub loop-i-init : goal.loop-i-init
loop-i-init c = copied_none _ _ _ _

pub invariant_of-stop : goal.invariant_of-stop
invariant_of-stop c = record { in_range = first_row c.requires _ c.loop-i.invariant c.loop-i-test.true }

pub loop-i-preserved : goal.loop-i-preserved
loop-i-preserved c =
    first_more c.requires _ c.loop-i.invariant _ c.loop-i-test.true (record { sfits = c.travel_to.type_inv }) c.travel_to.ensures

pub returns : goal.returns
unfolding columns_so_far
returns c = copied_all _ _ _ _ c.loop-i.invariant c.loop-i-test.false
