-- What `siting::respond_alone` owes.
use mathlib.Core.Path.{sym, ap, ◌∙◌}
use native.Mathlib.Omega.{arith}
use Rattle.job.proofs.PartLaws.{handed}
use Rattle.calls.proofs.Promises.{refused_call}
use Rattle.prepare.specs.ProblemRecord.{given_by}
use Rattle.prepare.proofs.JobProblem.{given_refused}
use Rattle.siting.proofs.RespondLaws.{prepared, few_rounds, before_figure_lem, refused_alone, lacking_alone, reporting_alone}
use Rattle.siting.proofs.respond_alone.Goals as goal

pub returns-in_err-given : goal.returns-in_err-given
returns-in_err-given c =
    let refused = given_refused _ _ (ap given_by (sym c.in_err-given.was) ∙ c.of_job.ensures) in
    rw (handed _ c.from_residual.ensures.1) (refused_alone _ _ _ (refused_call _ _ _ _ refused))

pub returns-then-out-lt-REPORT_BYTES : goal.returns-then-out-lt-REPORT_BYTES
returns-then-out-lt-REPORT_BYTES c =
    let given = ap given_by (sym c.in_ok-given.was) ∙ c.of_job.ensures in
    lacking_alone _ c.in_ok-given.given given _ (omega (arith, c.if-out-lt-REPORT_BYTES.true))

pub search-found-requires : goal.search-found-requires
search-found-requires c =
    let given = ap given_by (sym c.in_ok-given.was) ∙ c.of_job.ensures in
    (prepared _ c.in_ok-given.given given, before_figure_lem _ c.in_ok-given.given given, few_rounds _ c.in_ok-given.given given)

pub returns : goal.returns
returns c =
    let given = ap given_by (sym c.in_ok-given.was) ∙ c.of_job.ensures in
    reporting_alone _ c.in_ok-given.given given _ (omega (arith, c.if-out-lt-REPORT_BYTES.false)) _ _ c.report_found.ensures
