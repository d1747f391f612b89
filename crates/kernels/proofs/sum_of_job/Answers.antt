-- What `kernels::sum_of_job` owes.
use Rattle.trial.proofs.OpenLaws.{open_accepted, open_deck}
use Rattle.kernels.proofs.SumLaws.{kernel_refused, too_many, kernel_answer}
use Rattle.kernels.proofs.sum_of_job.Goals as goal

pub returns-in_err-o : goal.returns-in_err-o
returns-in_err-o c = rw c.from_residual.ensures (kernel_refused c.args.which c.args.turns c.requires _ _ c.of_job.ensures c.in_err-o.was)

pub returns-then-turns-gt-MOST_TURNS : goal.returns-then-turns-gt-MOST_TURNS
returns-then-turns-gt-MOST_TURNS c = too_many _ _ c.requires (open_accepted _ _ c.of_job.ensures _ c.in_ok-o.was).job c.if-turns-gt-MOST_TURNS.true

pub returns : goal.returns
returns c =
    let w = open_accepted _ _ c.of_job.ensures _ c.in_ok-o.was in
    kernel_answer _ _ c.requires w.job (open_deck w) c.if-turns-gt-MOST_TURNS.false c.sum_of.ensures
