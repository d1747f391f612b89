-- What `prepare::of_job` owes.
use mathlib.Core.Path.{sym, ◌∙◌}
use Rattle.job.proofs.PartLaws.{handed}
use Rattle.job.proofs.ReadDeck.{read_accepted, read_sound}
use Rattle.prepare.proofs.JobProblem.{prepared_refused, prepared_accepted}
use Rattle.prepare.proofs.of_job.Goals as goal

pub returns-in_err-job : goal.returns-in_err-job
returns-in_err-job c = rw (handed _ c.from_residual.ensures.1) (prepared_refused _ _ (sym c.in_err-job.was ∙ c.read.ensures))

pub of_deck-problem-requires : goal.of_deck-problem-requires
of_deck-problem-requires c =
    let e = sym c.in_ok-job.was ∙ c.read.ensures in
    read_sound (read_accepted _ _ e) _ e

pub returns : goal.returns
returns c = prepared_accepted _ _ (sym c.in_ok-job.was ∙ c.read.ensures) _ c.of_deck-problem.ensures
