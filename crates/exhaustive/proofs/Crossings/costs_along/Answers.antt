-- What `exhaustive::Crossings::costs_along` owes.
use mathlib.Core.Path.{ap, sym}
use Prim.Native.Nat.{◌≤◌}
use native.Mathlib.Omega.{arith}
use lib.IntN.{nat_abs}
use Rattle.query.specs.Deck.{AxisCosts}
use Rattle.numbers.proofs.WordTests.{back, back_is}
use Rattle.query.specs.Range.{coordinate_limit}
use Rattle.exhaustive.proofs.CheapestOfLines.{zero_sums, sweepable, swept_line}
use Rattle.exhaustive.proofs.Crossings.costs_along.Goals as goal

pub add_objects-requires : goal.add_objects-requires
add_objects-requires c =
    let near : nat_abs (back c.args.coordinate) ≤ coordinate_limit = rw (back_is c.ranges.coordinate) c.requires.0 in
    (omega (arith, near), zero_sums)

pub sweep-requires : goal.sweep-requires
sweep-requires c =
    let it = c.args.self.now in
    let axis = c.axis-axis.ensures in
    let b_is = ap (λ (a : AxisCosts). a.b) axis.is in (
      sweepable _ _ _ _ _ _ it.objects.now.priceable.count it.paid c.add_objects.ensures _ b_is,
      c.requires.1,
      (axis.range.some.1, axis.range.most.1),
    )

pub returns : goal.returns
returns c =
    let it = c.args.self.now in
    let b_is = ap (λ (a : AxisCosts). a.b) c.axis-axis.ensures.is in
    rw (back_is c.ranges.coordinate) at
    (swept_line _ _ _ (back c.args.coordinate) _ _ it.objects.now.priceable.count it.paid c.add_objects.ensures _ _ _ (sym b_is) c.sweep.ensures)
