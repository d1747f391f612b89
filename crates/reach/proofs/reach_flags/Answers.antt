-- What `reach::reach_flags` owes.
use mathlib.Core.Path.{◌≡◌, sym, ap, ◌∙◌}
use native.Mathlib.Omega.{arith}
use Rattle.query.specs.Deck.{AxisCosts}
use Rattle.deck.specs.Values.{rect_of}
use Rattle.columns.specs.Objects.{scaled_rect}
use Rattle.reach.specs.Held.{pricing_of_objects}
use Rattle.reach.proofs.ReachLaws.{flags_of_map}
use Rattle.reach.proofs.RowLaws.{row_reaches, flagged_none, flagged_more}
use Rattle.reach.proofs.reach_flags.Goals as goal

pub loop-i-init : goal.loop-i-init
loop-i-init c = flagged_none _ _

pub loop-i-preserved : goal.loop-i-preserved
loop-i-preserved c =
    flagged_more _ _ _ c.loop-i.invariant (omega (arith, c.loop-i-test.true, c.count-i-end.ensures, c.args.objects.now.priceable.count))
    (c.reached_from.ensures ∙ row_reaches c.row-row.result _ c.row-row.ensures)

pub returns : goal.returns
returns c =
    let full : c.loop-i.i ≡ c.args.objects.now.count = omega (arith, c.loop-i-test.false, c.loop-i.auto.i-end, c.count-i-end.ensures) in
    let edges = c.of-edges.ensures.are ∙ ap (λ (axis : AxisCosts). scaled_rect axis (rect_of c.args.rectangle)) c.axis.ensures.is in
    c.loop-i.invariant.are ∙ rw (full, edges) (sym (flags_of_map (pricing_of_objects c.args.objects.now) _))
