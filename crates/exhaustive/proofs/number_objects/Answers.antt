-- What `exhaustive::number_objects` owes.
use mathlib.Core.Path.{ap, ◌∙◌}
use native.Mathlib.Omega.{arith}
use Rattle.query.specs.Deck.{AxisCosts}
use Rattle.exhaustive.proofs.AllObjects.{finding_none, finding_more, finding_all}
use Rattle.exhaustive.proofs.number_objects.Goals as goal

pub new-divisor-requires : goal.new-divisor-requires
new-divisor-requires c = let costs = c.axis-axis.ensures.range in (costs.some.1, costs.most.1)

pub loop-i-init : goal.loop-i-init
loop-i-init c = finding_none _ _ _ c.requires

pub loop-i-preserved : goal.loop-i-preserved
loop-i-preserved c =
    let b_is = c.new-divisor.ensures ∙ ap (λ (a : AxisCosts). a.b) c.axis-axis.ensures.is in
    finding_more _ _ c.loop-i.invariant c.row-y.result (omega (arith, c.loop-i-test.true, c.count-i-end.ensures)) c.row-y.ensures b_is c.first_from.ensures

pub returns : goal.returns
returns c = finding_all _ _ c.loop-i.invariant (omega (arith, c.loop-i-test.false, c.loop-i.auto.i-end, c.count-i-end.ensures))
