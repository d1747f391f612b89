-- What `pricing::cost` owes.
use mathlib.Core.Path.{◌≡◌, sym, ap, ◌∙◌}
use native.Mathlib.Omega.{arith}
use Rattle.query.specs.Deck.{AxisCosts}
use Rattle.deck.specs.Values.{place_of}
use Rattle.columns.specs.Objects.{scaled_place}
use Rattle.reach.specs.Held.{count_of_objects, pricing_of_objects}
use Rattle.pricing.proofs.ObjectLaws.{cost_of_sum}
use Rattle.pricing.proofs.ColumnLaws.{passed_none}
use Rattle.pricing.proofs.TurnLaws.{to_place, found_fits, paid_more}
use Rattle.pricing.proofs.cost.Goals as goal

pub loop-i-init : goal.loop-i-init
loop-i-init c = passed_none _ _ _

pub of-post-requires : goal.of-post-requires
of-post-requires c = (c.axis-axis.ensures.range, c.requires)

pub paid-sum-requires : goal.paid-sum-requires
paid-sum-requires c = found_fits (to_place c.row-row.result c.of-post.result c.travel_to.ensures)

pub loop-i-preserved : goal.loop-i-preserved
loop-i-preserved c = paid_more (to_place c.row-row.result c.of-post.result c.travel_to.ensures) c.row-row.ensures _ c.loop-i.invariant c.paid-sum.ensures

pub overflow_add-sum : goal.overflow_add-sum
overflow_add-sum c =
    let next = loop-i-preserved c in omega (arith, next.most, c.loop-i-test.true, c.count-i-end.ensures, c.args.objects.now.priceable.count)

pub returns : goal.returns
returns c =
    let full : c.loop-i.i ≡ count_of_objects c.args.objects.now = omega (arith, c.loop-i-test.false, c.loop-i.auto.i-end, c.count-i-end.ensures) in
    let at : record { x = c.of-post.result.x; y = c.of-post.result.y } ≡ scaled_place _ (place_of c.args.at) =
    (λ i. record { x = c.of-post.ensures.0 i; y = c.of-post.ensures.1 i })
    ∙ ap (λ (axis : AxisCosts). scaled_place axis (place_of c.args.at)) c.axis-axis.ensures.is in
    record {
      is = c.loop-i.invariant.so_far ∙ rw (full, at) (sym (cost_of_sum (pricing_of_objects c.args.objects.now) _));
      within = omega (arith, c.loop-i.invariant.most, full, c.args.objects.now.priceable.count);
    }
