-- What `siting::respond` owes.
use mathlib.Core.Path.{sym, ap, ◌∙◌}
use native.Mathlib.Omega.{arith}
use Rattle.job.proofs.PartLaws.{handed}
use Rattle.calls.proofs.Promises.{refused_call}
use Rattle.prepare.specs.ProblemRecord.{given_by}
use Rattle.prepare.proofs.JobProblem.{given_refused}
use Rattle.estimate.proofs.EstimateLaws.{job_counts}
use Rattle.siting.proofs.RespondLaws.{prepared, few_rounds, before_figure_lem, few_cells, small, enough, live_fit, respond_refused, lacking, reporting}
use Rattle.siting.proofs.respond.Goals as goal

pub returns-in_err-given : goal.returns-in_err-given
returns-in_err-given c =
    let refused = given_refused _ _ (ap given_by (sym c.in_err-given.was) ∙ c.of_job.ensures) in
    rw (handed _ c.from_residual.ensures.1) (respond_refused _ _ _ _ (refused_call _ _ _ _ refused))

pub of_given-needs-requires : goal.of_given-needs-requires
of_given-needs-requires c = job_counts _ c.in_ok-given.given (ap given_by (sym c.in_ok-given.was) ∙ c.of_job.ensures)

pub overflow_mul-needs : goal.overflow_mul-needs
overflow_mul-needs c =
    omega (arith, few_cells _ c.in_ok-given.given (ap given_by (sym c.in_ok-given.was) ∙ c.of_job.ensures) c.of_given-needs.result c.of_given-needs.ensures)

pub returns-then-cells-needs : goal.returns-then-cells-needs
returns-then-cells-needs c =
    let given = ap given_by (sym c.in_ok-given.was) ∙ c.of_job.ensures in
    respond_refused _ _ _ _ (small _ c.in_ok-given.given given c.of_given-needs.result c.of_given-needs.ensures _ _ (omega (arith, c.if-cells-needs.true)))

-- the cell space is large enough
pub returns-then-out-lt-REPORT_BYTES : goal.returns-then-out-lt-REPORT_BYTES
returns-then-out-lt-REPORT_BYTES c =
    let given = ap given_by (sym c.in_ok-given.was) ∙ c.of_job.ensures in
    let room = enough _ c.in_ok-given.given given c.of_given-needs.result c.of_given-needs.ensures _ (omega (arith, c.if-cells-needs.false)) in
    lacking _ c.in_ok-given.given given c.args.cells.now c.args.out.now room (omega (arith, c.if-out-lt-REPORT_BYTES.true))

pub search_into-found-requires : goal.search_into-found-requires
search_into-found-requires c =
    let given = ap given_by (sym c.in_ok-given.was) ∙ c.of_job.ensures in
    let room = enough _ c.in_ok-given.given given c.of_given-needs.result c.of_given-needs.ensures _ (omega (arith, c.if-cells-needs.false)) in (
      prepared _ c.in_ok-given.given given,
      before_figure_lem _ c.in_ok-given.given given,
      few_rounds _ c.in_ok-given.given given,
      live_fit _ c.in_ok-given.given given _ room,
    )

pub returns : goal.returns
returns c =
    let given = ap given_by (sym c.in_ok-given.was) ∙ c.of_job.ensures in
    let room = enough _ c.in_ok-given.given given c.of_given-needs.result c.of_given-needs.ensures _ (omega (arith, c.if-cells-needs.false)) in
    reporting _ c.in_ok-given.given given c.args.cells.now c.args.out.now room (omega (arith, c.if-out-lt-REPORT_BYTES.false)) _ _ _
    c.search_into-found.ensures.cells c.report_found.ensures
