-- What `corner_bound::load` owes.
use mathlib.Core.Path.{◌≡◌, sym, ap, ◌∙◌}
use native.Mathlib.Omega.{arith}
use Rattle.query.specs.Deck.{AxisCosts}
use Rattle.deck.specs.Values.{rect_of}
use Rattle.columns.specs.Objects.{scaled_rect}
use Rattle.reach.specs.Held.{count_of_objects, pricing_of_objects}
use Rattle.corner_bound.proofs.LoadLaws.{load_of_sum, load_more}
use Rattle.pricing.proofs.ColumnLaws.{passed_none}
use Rattle.corner_bound.proofs.load.Goals as goal

pub loop-i-init : goal.loop-i-init
loop-i-init c = passed_none _ _ _

pub loop-i-preserved : goal.loop-i-preserved
loop-i-preserved c = load_more c.row.result c.row.ensures _ _ c.loop-i.invariant c.borne-sum.ensures

pub overflow_add-sum : goal.overflow_add-sum
overflow_add-sum c =
    let next = loop-i-preserved c in omega (arith, next.most, c.loop-i-test.true, c.count-i-end.ensures, c.args.objects.now.priceable.count)

pub returns : goal.returns
returns c =
    let full : c.loop-i.i ≡ count_of_objects c.args.objects.now = omega (arith, c.loop-i-test.false, c.loop-i.auto.i-end, c.count-i-end.ensures) in
    let edges = c.of-edges.ensures.are ∙ ap (λ (axis : AxisCosts). scaled_rect axis (rect_of c.args.rectangle)) c.axis.ensures.is in
    record {
      is = c.loop-i.invariant.so_far ∙ rw (full, edges) (sym (load_of_sum (pricing_of_objects c.args.objects.now) _));
      within = omega (arith, c.loop-i.invariant.most, full, c.args.objects.now.priceable.count);
    }
