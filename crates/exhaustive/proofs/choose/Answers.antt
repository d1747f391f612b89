-- What `exhaustive::choose` owes.
use native.Mathlib.Omega.{arith}
use Rattle.numbers.proofs.WordTests.{back_is}
use Rattle.exhaustive.proofs.ChooseLaws.{choose_more, choose_all}
use Rattle.exhaustive.proofs.choose.Goals as goal

pub loop-j-preserved : goal.loop-j-preserved
loop-j-preserved c =
    choose_more _ _ _ _ c.args.lines.now.in_range c.loop-j.invariant c.loop-j-test.true _ _ c.with_cost.ensures c.cheaper-found.ensures

pub returns : goal.returns
returns c = rw (back_is c.ranges.coordinate) at (choose_all _ _ _ _ c.loop-j.invariant (omega (arith, c.loop-j-test.false)))
