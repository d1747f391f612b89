-- What `kernels::sum_turns` owes.
use Rattle.kernels.proofs.SumLaws.{summed_none, summed_more}
use Rattle.kernels.proofs.sum_turns.Goals as goal

pub loop-t-init : goal.loop-t-init
loop-t-init g c = summed_none _ _ _

pub loop-t-preserved : goal.loop-t-preserved
loop-t-preserved g c = summed_more _ c.loop-t.invariant c.loop-t-test.true c.at-sum.ensures.is c.at-sum.ensures.within
