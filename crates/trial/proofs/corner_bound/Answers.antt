-- What `trial::corner_bound` owes.
use Rattle.trial.proofs.OpenLaws.{open_in, none_in}
use Rattle.trial.proofs.FigureLaws.{corner_bound_answer}
use Rattle.trial.proofs.corner_bound.Goals as goal

pub returns-in_err-o : goal.returns-in_err-o
returns-in_err-o c = rw c.from_residual.ensures (none_in _ _ _ c.opened_in.ensures _ _ c.in_err-o.was)

pub corner_bound-requires : goal.corner_bound-requires
corner_bound-requires c = (open_in _ _ _ c.opened_in.ensures _ c.in_ok-o.was).ranged

pub returns : goal.returns
returns c = corner_bound_answer (open_in _ _ _ c.opened_in.ensures _ c.in_ok-o.was) c.corner_bound.ensures
