-- What `pricing::parts` owes.
use mathlib.Core.Path.{◌≡◌, ap, ◌∙◌}
use Prim.Native.Nat.{◌<◌}
use native.Mathlib.Omega.{arith}
use lib.IntN.{ℤ}
use Rattle.query.specs.Place.{Place}
use Rattle.query.specs.Deck.{AxisCosts}
use Rattle.deck.specs.Values.{place_of, rect_of}
use Rattle.columns.specs.Objects.{scaled_place, scaled_rect}
use Rattle.reach.specs.Held.{count_of_objects}
use Rattle.pricing.proofs.SpareLaws.{summed_none, spare_fits, summed_more, saved_less, cost_left, bound_left}
use Rattle.pricing.proofs.parts.Goals as goal

pub loop-i-init : goal.loop-i-init
loop-i-init c = record {
  at_low = summed_none _ _;
  at_high = summed_none _ _;
  in_first = summed_none _ _;
  in_second = summed_none _ _;
}

-- ---- a turn
pub saved-at_low-requires : goal.saved-at_low-requires
saved-at_low-requires c =
    spare_fits c.put_spared.ensures.at_low _ (omega (arith, c.loop-i-test.true, c.count-i-end.ensures)) c.row-row.result c.row-row.ensures

pub saved-at_high-requires : goal.saved-at_high-requires
saved-at_high-requires c =
    spare_fits c.put_spared.ensures.at_high _ (omega (arith, c.loop-i-test.true, c.count-i-end.ensures)) c.row-row.result c.row-row.ensures

pub saved-in_first-requires : goal.saved-in_first-requires
saved-in_first-requires c =
    spare_fits c.put_spared.ensures.in_first _ (omega (arith, c.loop-i-test.true, c.count-i-end.ensures)) c.row-row.result c.row-row.ensures

pub saved-in_second-requires : goal.saved-in_second-requires
saved-in_second-requires c =
    spare_fits c.put_spared.ensures.in_second _ (omega (arith, c.loop-i-test.true, c.count-i-end.ensures)) c.row-row.result c.row-row.ensures

pub loop-i-preserved : goal.loop-i-preserved
loop-i-preserved c =
    let spared = c.put_spared.ensures in
    let here : c.loop-i.i < count_of_objects c.args.objects.now = omega (arith, c.loop-i-test.true, c.count-i-end.ensures) in
    record {
      at_low =
          summed_more spared.at_low _ here c.row-row.result c.row-row.ensures _ c.saved-at_low.ensures c.loop-i.invariant.at_low;
      at_high =
          summed_more spared.at_high _ here c.row-row.result c.row-row.ensures _ c.saved-at_high.ensures c.loop-i.invariant.at_high;
      in_first =
          summed_more spared.in_first _ here c.row-row.result c.row-row.ensures _ c.saved-in_first.ensures c.loop-i.invariant.in_first;
      in_second =
          summed_more spared.in_second _ here c.row-row.result c.row-row.ensures _ c.saved-in_second.ensures c.loop-i.invariant.in_second;
    }

pub overflow_add-at_low : goal.overflow_add-at_low
overflow_add-at_low c =
    omega (
      arith,
      c.loop-i.invariant.at_low.most,
      c.saved-at_low.ensures.within,
      c.loop-i-test.true,
      c.count-i-end.ensures,
      c.args.objects.now.priceable.count,
    )

pub overflow_add-at_high : goal.overflow_add-at_high
overflow_add-at_high c =
    omega (
      arith,
      c.loop-i.invariant.at_high.most,
      c.saved-at_high.ensures.within,
      c.loop-i-test.true,
      c.count-i-end.ensures,
      c.args.objects.now.priceable.count,
    )

pub overflow_add-in_first : goal.overflow_add-in_first
overflow_add-in_first c =
    omega (
      arith,
      c.loop-i.invariant.in_first.most,
      c.saved-in_first.ensures.within,
      c.loop-i-test.true,
      c.count-i-end.ensures,
      c.args.objects.now.priceable.count,
    )

pub overflow_add-in_second : goal.overflow_add-in_second
overflow_add-in_second c =
    omega (
      arith,
      c.loop-i.invariant.in_second.most,
      c.saved-in_second.ensures.within,
      c.loop-i-test.true,
      c.count-i-end.ensures,
      c.args.objects.now.priceable.count,
    )

-- ---- the end
corner_is : {x y : ℤ} {p : Place} → (x ≡ p.x) × (y ≡ p.y) → record { x = x; y = y } ≡ p
corner_is e = λ j. record { x = e.0 j; y = e.1 j }

pub overflow_sub-result : goal.overflow_sub-result
overflow_sub-result c =
    let full : c.loop-i.i ≡ count_of_objects c.args.objects.now = omega (arith, c.loop-i-test.false, c.loop-i.auto.i-end, c.count-i-end.ensures) in
    saved_less _ _ c.requires.0 full _ c.put_spared.ensures.at_low c.loop-i.invariant.at_low

pub overflow_sub-result-2 : goal.overflow_sub-result-2
overflow_sub-result-2 c =
    let full : c.loop-i.i ≡ count_of_objects c.args.objects.now = omega (arith, c.loop-i-test.false, c.loop-i.auto.i-end, c.count-i-end.ensures) in
    saved_less _ _ c.requires.0 full _ c.put_spared.ensures.at_high c.loop-i.invariant.at_high

pub overflow_sub-result-3 : goal.overflow_sub-result-3
overflow_sub-result-3 c =
    let full : c.loop-i.i ≡ count_of_objects c.args.objects.now = omega (arith, c.loop-i-test.false, c.loop-i.auto.i-end, c.count-i-end.ensures) in
    saved_less _ _ c.requires.0 full _ c.put_spared.ensures.in_first c.loop-i.invariant.in_first

pub overflow_sub-result-4 : goal.overflow_sub-result-4
overflow_sub-result-4 c =
    let full : c.loop-i.i ≡ count_of_objects c.args.objects.now = omega (arith, c.loop-i-test.false, c.loop-i.auto.i-end, c.count-i-end.ensures) in
    saved_less _ _ c.requires.0 full _ c.put_spared.ensures.in_second c.loop-i.invariant.in_second

pub returns : goal.returns
returns c =
    let done = c.loop-i.invariant in
    let spared = c.put_spared.ensures in
    let axis = c.axis-axis.ensures.is in
    let whole = c.requires.0 in
    let full : c.loop-i.i ≡ count_of_objects c.args.objects.now = omega (arith, c.loop-i-test.false, c.loop-i.auto.i-end, c.count-i-end.ensures) in
    record {
      low =
          cost_left _ _ whole full _ _
          (corner_is c.of-low_corner.ensures ∙ (λ j. scaled_place (axis j) (place_of (c.low.ensures j)))) spared.at_low done.at_low;
      high =
          cost_left _ _ whole full _ _
          (corner_is c.of-high_corner.ensures ∙ (λ j. scaled_place (axis j) (place_of (c.high.ensures j)))) spared.at_high done.at_high;
      first_bound =
          bound_left _ _ whole full _ _
          (c.of-first_edges.ensures.are ∙ ap (λ (a : AxisCosts). scaled_rect a (rect_of c.args.first)) axis) spared.in_first done.in_first;
      second_bound =
          bound_left _ _ whole full _ _
          (c.of-second_edges.ensures.are ∙ ap (λ (a : AxisCosts). scaled_rect a (rect_of c.args.second)) axis) spared.in_second done.in_second;
    }
