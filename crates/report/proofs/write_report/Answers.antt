-- What `report::write_report` owes.
use mathlib.Core.Path.{◌≡◌, ap}
use Prim.Native.Nat.{◌^◌, ◌<◌}
use native.Mathlib.Omega.{arith}
use lib.IntN.{ℤ, pos, negsuc, nat_abs}
use lib.ListN.{length}
use borrow.Author.Rules.{rules}
use mir.Syntax.{w64}
use mir.Val.{to_z, of_z}
use mir.ValLaws.{to_z-of_z}
use Rattle.numbers.proofs.Integer.{order, abs_range}
use Rattle.text.specs.Ascii.{bytes}
use Rattle.write.specs.declared.Writer.{Writer}
use Rattle.write.specs.Written.{Wrote}
use Rattle.write.proofs.WrittenLaws.{wrote_front}
use Rattle.report.specs.declared.Report.{Report}
use Rattle.query.specs.Range.{cost_limit, rounds_limit, FiguresInRange}
use Rattle.report.specs.Report.{report_state, report_figures}
use Rattle.report.proofs.TextLaws.{place_part, costs_part, length_state, length_place, length_costs, length_rounds, report_wrote}
use Rattle.report.proofs.write_report.Goals as goal

-- a number in range, as it is read back from its bits
back : (z : ℤ) → nat_abs z < 2 ^ 63 → to_z w64 (of_z w64 z) ≡ z
back (pos n) h = to_z-of_z w64 (pos n) (record { sfits = h })
back (negsuc n) h = to_z-of_z w64 (negsuc n) (record { sfits = omega arith })

place-wrote : {before after : Writer} (r : Report) → FiguresInRange rounds_limit (report_figures r) →
    Wrote before (place_part (to_z w64 (of_z w64 r.x)) (to_z w64 (of_z w64 r.y))) after → Wrote before (place_part r.x r.y) after
place-wrote r h w = rw (back r.x (omega (arith, h.place.x_range)), back r.y (omega (arith, h.place.y_range))) at w

costs-wrote : {before after : Writer} (r : Report) → FiguresInRange rounds_limit (report_figures r) →
    Wrote before (costs_part r.high (to_z w64 (of_z w64 r.low)) r.before) after → Wrote before (costs_part r.high r.low r.before) after
costs-wrote r h w = let few = (abs_range r.low cost_limit).1 (omega (arith, order, h.low_some, h.low_limit)) in
    rw (back r.low (omega (arith, few))) at w

pub put_place-requires : goal.put_place-requires
unfolding bytes
put_place-requires c = omega (
  arith,
  c.requires.in_bounds,
  c.new-w.ensures.place,
  ap length c.new-w.ensures.content,
  c.put_state.ensures.next,
  c.put_state.ensures.size,
  length_state (report_state c.args.report.state),
)

pub put_costs-requires : goal.put_costs-requires
unfolding bytes
put_costs-requires c =
    let range = c.requires.figures_in_range in
    let place = place-wrote c.args.report range c.put_place.ensures in
    omega (
      arith,
      c.requires.in_bounds,
      c.new-w.ensures.place,
      ap length c.new-w.ensures.content,
      c.put_state.ensures.next,
      c.put_state.ensures.size,
      length_state (report_state c.args.report.state),
      place.next,
      place.size,
      length_place c.args.report.x c.args.report.y range.place.x_range range.place.y_range,
    )

pub put_key-requires : goal.put_key-requires
unfolding bytes
put_key-requires c =
    let range = c.requires.figures_in_range in
    let place = place-wrote c.args.report range c.put_place.ensures in
    let costs = costs-wrote c.args.report range c.put_costs.ensures in
    omega (
      arith,
      c.requires.in_bounds,
      c.new-w.ensures.place,
      ap length c.new-w.ensures.content,
      c.put_state.ensures.next,
      c.put_state.ensures.size,
      length_state (report_state c.args.report.state),
      place.next,
      place.size,
      length_place c.args.report.x c.args.report.y range.place.x_range range.place.y_range,
      costs.next,
      costs.size,
      length_costs c.args.report.high c.args.report.low c.args.report.before range.high_limit range.low_some range.low_limit range.before_limit,
      length_rounds c.args.report.rounds range.rounds_limit_lem,
    )

pub put-requires : goal.put-requires
unfolding bytes
put-requires c =
    let range = c.requires.figures_in_range in
    let place = place-wrote c.args.report range c.put_place.ensures in
    let costs = costs-wrote c.args.report range c.put_costs.ensures in
    omega (
      arith,
      c.requires.in_bounds,
      c.new-w.ensures.place,
      ap length c.new-w.ensures.content,
      c.put_state.ensures.next,
      c.put_state.ensures.size,
      length_state (report_state c.args.report.state),
      place.next,
      place.size,
      length_place c.args.report.x c.args.report.y range.place.x_range range.place.y_range,
      costs.next,
      costs.size,
      length_costs c.args.report.high c.args.report.low c.args.report.before range.high_limit range.low_some range.low_limit range.before_limit,
      c.put_key.ensures.next,
      c.put_key.ensures.size,
      length_rounds c.args.report.rounds range.rounds_limit_lem,
    )

pub returns : goal.returns
unfolding bytes
returns c =
    let range = c.requires.figures_in_range in
    let w = report_wrote (report_figures c.args.report) c.put_state.ensures (place-wrote c.args.report range c.put_place.ensures)
    (costs-wrote c.args.report range c.put_costs.ensures) c.put_key.ensures c.put.ensures in
    wrote_front _ w c.new-w.ensures.content c.new-w.ensures.place (search rules) (search rules)
