-- How long reports and refusals are: the record of specs/Limits.antt.
use mathlib.Core.Path.{refl}
use Prim.Native.Nat.{◌≤◌}
use native.Mathlib.Omega.{arith}
use lib.ListN.{length, length-append}
use Rattle.query.specs.Figures.{Figures}
use Rattle.text.specs.Ascii.{bytes}
use Rattle.report.specs.Text.{report_text}
use Rattle.query.specs.Range.{rounds_limit, FiguresInRange}
use Rattle.report.specs.Limits.{ReportFits}
use Rattle.report.proofs.TextLaws.{state_part, place_part, costs_part, rounds_part, report_parts, refusal_parts, length_five, length_state, length_place}
use Rattle.report.proofs.TextLaws.{length_costs, length_rounds, length_refusal}

longest : (f : Figures) → FiguresInRange rounds_limit f → length (report_text f) ≤ 104
unfolding bytes
longest f r =
    rw report_parts (omega (
      arith,
      length_five (state_part f.state) (place_part f.at.x f.at.y) (costs_part f.high f.low f.before) (rounds_part f.rounds) (bytes "\n"),
      length_state f.state,
      length_place f.at.x f.at.y r.place.x_range r.place.y_range,
      length_costs f.high f.low f.before r.high_limit r.low_some r.low_limit r.before_limit,
      length_rounds f.rounds r.rounds_limit_lem,
    ))

pub report_fits : ReportFits
unfolding bytes report_text
report_fits = record {
  report_fits = λ f r. omega (arith, longest f r);
  report_longest = longest;
  report_widest = refl;
  refusal_longest = λ why. rw refusal_parts (simp length-append (omega (arith, length_refusal why)));
}
