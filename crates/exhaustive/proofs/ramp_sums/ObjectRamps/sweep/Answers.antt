-- What `exhaustive::ramp_sums::ObjectRamps::sweep` owes.
use native.Mathlib.Omega.{arith}
use lib.IntN.{pos}
use lib.ListN.{get_or}
use mathlib.Core.Path.{◌≡◌, ap, ◌∙◌}
use Rattle.numbers.specs.Integer.{times}
use Rattle.exhaustive.specs.Ramps.{height_of}
use Rattle.exhaustive.proofs.SweepLaws.{sweep_none, sweep_all, sweep_more, payable}
use Rattle.exhaustive.proofs.AllObjects.{scaled_wide}
use Rattle.exhaustive.proofs.ramp_sums.ObjectRamps.sweep.Goals as goal

pub loop-k-init : goal.loop-k-init
loop-k-init c = sweep_none _ _ _ _ _

pub cost_at-cost-requires : goal.cost_at-cost-requires
cost_at-cost-requires c =
    let lines = c.args.lines.now.in_range in
    let y = get_or c.args.lines.now.at.now c.loop-k.k (pos 0) in
    let risen : c.height.result ≡ height_of (times c.args.b y) =
    c.height.ensures ∙ ap height_of (scaled_wide y c.requires.2.1 (lines.range c.loop-k.k c.loop-k-test.true) c.scaled-y.ensures) in
    payable _ _ _ _ c.args.costs.now c.requires.2.1 lines c.requires.0 c.loop-k-test.true c.add_line.ensures _ risen

pub loop-k-preserved : goal.loop-k-preserved
loop-k-preserved c =
    let lines = c.args.lines.now.in_range in
    let y = get_or c.args.lines.now.at.now c.loop-k.k (pos 0) in
    let risen : c.height.result ≡ height_of (times c.args.b y) =
    c.height.ensures ∙ ap height_of (scaled_wide y c.requires.2.1 (lines.range c.loop-k.k c.loop-k-test.true) c.scaled-y.ensures) in
    sweep_more _ _ _ _ _ c.requires.2.1 lines c.requires.0 c.loop-k-test.true c.add_line.ensures _ risen _ c.cost_at-cost.ensures c.loop-k.invariant
    c.requires.1

pub returns : goal.returns
returns c = sweep_all _ _ _ _ _ c.loop-k.invariant (omega (arith, c.loop-k.auto.k-end))
