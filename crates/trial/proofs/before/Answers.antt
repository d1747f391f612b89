-- What `trial::before` owes.
use native.Mathlib.Omega.{arith}
use Rattle.trial.proofs.OpenLaws.{open_accepted, open_refused}
use Rattle.trial.proofs.FigureLaws.{before_small, before_answer}
use Rattle.trial.proofs.before.Goals as goal

pub returns-in_err-o : goal.returns-in_err-o
returns-in_err-o c = rw c.from_residual.ensures (open_refused _ _ c.of_job.ensures _ _ c.in_err-o.was)

pub overflow_cast-result : goal.overflow_cast-result
overflow_cast-result c = omega (arith, before_small (open_accepted _ _ c.of_job.ensures _ c.in_ok-o.was))

pub returns : goal.returns
returns c = before_answer (open_accepted _ _ c.of_job.ensures _ c.in_ok-o.was)
