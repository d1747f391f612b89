-- What `pricing::put_spared` owes.
use mathlib.Core.Path.{◌≡◌}
use Prim.Native.Nat.{◌<◌}
use native.Mathlib.Omega.{arith}
use lib.ListN.{length}
use borrow.Author.Rules.{rules}
use Rattle.query.specs.Range.{stops_limit}
use Rattle.reach.specs.Held.{count_of_objects}
use Rattle.pricing.proofs.TurnLaws.{to_place, to_rect, found_fits}
use Rattle.pricing.proofs.SpareLaws.{spared_none, spared_more}
use Rattle.pricing.proofs.put_spared.Goals as goal

pub loop-i-init : goal.loop-i-init
loop-i-init c = record {
  at_low = spared_none _ _ _;
  at_high = spared_none _ _ _;
  in_first = spared_none _ _ _;
  in_second = spared_none _ _ _;
}

pub below_near-requires : goal.below_near-requires
below_near-requires c = found_fits (to_place c.row-row.result c.args.low c.travel_to.ensures)

pub below_near-requires-in-loop-i : goal.below_near-requires-in-loop-i
below_near-requires-in-loop-i c = found_fits (to_place c.row-row.result c.args.high c.travel_to-in-loop-i.ensures)

pub loop-i-preserved : goal.loop-i-preserved
loop-i-preserved c =
    let done = c.loop-i.invariant in
    let row = c.row-row.result in
    let at = c.row-row.ensures in
    let here : c.loop-i.i < stops_limit = omega (arith, c.loop-i-test.true, c.count-i-end.ensures, c.args.objects.now.priceable.count) in
    let low : length c.loop-i.spared.low ≡ stops_limit = search rules in
    let high : length c.loop-i.spared.high ≡ stops_limit = search rules in
    let first : length c.loop-i.spared.first ≡ stops_limit = search rules in
    let second : length c.loop-i.spared.second ≡ stops_limit = search rules in
    let to_low = to_place row c.args.low c.travel_to.ensures in
    let to_high = to_place row c.args.high c.travel_to-in-loop-i.ensures in
    let to_first = to_rect row c.args.first c.travel_from.ensures.0 in
    let to_second = to_rect row c.args.second c.travel_from-in-loop-i.ensures.0 in
    record {
      at_low = spared_more _ _ _ _ _ _ to_low at _ c.below_near.ensures (omega (arith, here, low)) done.at_low;
      at_high = spared_more _ _ _ _ _ _ to_high at _ c.below_near-in-loop-i.ensures (omega (arith, here, high)) done.at_high;
      in_first = spared_more _ _ _ _ _ _ to_first at _ c.below_near-in-loop-i-2.ensures (omega (arith, here, first)) done.in_first;
      in_second = spared_more _ _ _ _ _ _ to_second at _ c.below_near-in-loop-i-3.ensures (omega (arith, here, second)) done.in_second;
    }

pub returns : goal.returns
returns c =
    let full : c.loop-i.i ≡ count_of_objects c.args.objects.now = omega (arith, c.loop-i-test.false, c.loop-i.auto.i-end, c.count-i-end.ensures) in
    rw (← full) c.loop-i.invariant
