-- What `exhaustive::Crossings::cheapest_of` owes.
use mathlib.Core.Path.{◌∙◌}
use native.Mathlib.Omega.{arith}
use Rattle.exhaustive.proofs.CostsAlong.{costs_length}
use Rattle.exhaustive.proofs.CheapestOfLines.{compared_more, compared_all}
use Rattle.exhaustive.proofs.Crossings.cheapest_of.Goals as goal

pub loop-v-preserved : goal.loop-v-preserved
loop-v-preserved c =
    let few = c.args.self.now.lines.in_range.in_order.few in (
      rw c.cheapest_on-found.ensures.priced (costs_length _ _ _ _ (omega (arith, few, c.loop-v.invariant.0)) ∙ c.loop-v.invariant.0),
      compared_more _ _ _ _ c.requires c.loop-v.invariant.1 c.loop-v-test.true _ c.cheapest_on-found.ensures.chosen,
    )

pub returns : goal.returns
returns c = compared_all _ _ _ _ c.loop-v.invariant.1 c.loop-v-test.false
