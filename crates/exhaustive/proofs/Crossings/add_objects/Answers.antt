-- What `exhaustive::Crossings::add_objects` owes.
use mathlib.Core.Path.{◌≡◌, ap, sym, ◌∙◌}
use native.Mathlib.Omega.{arith}
use Rattle.numbers.specs.Integer.{times}
use Rattle.numbers.proofs.WordTests.{back}
use Rattle.query.specs.Deck.{AxisCosts}
use Rattle.columns.specs.ObjectColumns.{axis_in}
use Rattle.reach.specs.Held.{columns_of_objects}
use Rattle.reach.proofs.NarrowLaws.{scaled_small}
use Rattle.exhaustive.proofs.ObjectRamps.{small_back}
use Rattle.exhaustive.proofs.AllObjects.{widened, scaled_wide, first_at, objects_none, objects_more, sums_few}
use Rattle.exhaustive.proofs.Crossings.add_objects.Goals as goal

pub new-divisor-requires : goal.new-divisor-requires
new-divisor-requires c = let costs = c.axis-axis.ensures.range in (costs.some.1, costs.most.1)

pub loop-i-init : goal.loop-i-init
loop-i-init c = objects_none _ _ _ _ c.requires.1

pub add_object-requires : goal.add_object-requires
add_object-requires c =
    let most = c.axis-axis.ensures.range.most.0 in
    let b_is = c.new-divisor.ensures ∙ ap (λ (a : AxisCosts). a.b) c.axis-axis.ensures.is in (
      rw (scaled_wide c.args.coordinate most c.requires.0 c.scaled-x.ensures) (scaled_small most c.args.coordinate c.requires.0),
      sums_few c.loop-i.i c.loop-i.invariant.sums (omega (arith, c.loop-i-test.true, c.count-i-end.ensures, c.args.self.now.objects.now.priceable.count)),
      first_at _ _ c.row.result (omega (arith, c.loop-i-test.true, c.count-i-end.ensures)) c.row.ensures b_is c.args.self.now.found,
    )

pub loop-i-preserved : goal.loop-i-preserved
loop-i-preserved c =
    let x_is : widened c.scaled-x.result ≡ times (axis_in (columns_of_objects c.args.self.now.objects.now)).a (back c.args.coordinate) =
    scaled_wide c.args.coordinate c.axis-axis.ensures.range.most.0 c.requires.0 c.scaled-x.ensures
    ∙ (λ i. times (c.axis-axis.ensures.is i).a (sym (small_back c.args.coordinate (omega (arith, c.requires.0))) i)) in
    let b_is = c.new-divisor.ensures ∙ ap (λ (a : AxisCosts). a.b) c.axis-axis.ensures.is in
    objects_more _ _ _ _ _ _ c.row.result _ _ c.row.ensures x_is b_is c.loop-i.invariant c.add_object.ensures
