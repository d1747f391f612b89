-- What `estimate::of_job` owes.
use mathlib.Core.Path.{sym, ap, ◌∙◌}
use Rattle.job.proofs.PartLaws.{handed}
use Rattle.prepare.specs.ProblemRecord.{given_by}
use Rattle.estimate.proofs.EstimateLaws.{job_counts, estimate_given, estimate_refused}
use Rattle.estimate.proofs.of_job.Goals as goal

pub returns-in_err-given : goal.returns-in_err-given
returns-in_err-given c =
    rw (handed _ c.from_residual.ensures.1) (estimate_refused _ _ (ap given_by (sym c.in_err-given.was) ∙ c.of_job.ensures))

pub of_given-requires : goal.of_given-requires
of_given-requires c = job_counts _ c.in_ok-given.given (ap given_by (sym c.in_ok-given.was) ∙ c.of_job.ensures)

pub returns : goal.returns
returns c =
    estimate_given _ c.in_ok-given.given (ap given_by (sym c.in_ok-given.was) ∙ c.of_job.ensures) c.of_given.result c.of_given.ensures
