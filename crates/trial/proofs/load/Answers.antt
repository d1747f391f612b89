-- What `trial::load` owes.
use Rattle.trial.proofs.OpenLaws.{open_in, none_in}
use Rattle.trial.proofs.FigureLaws.{load_answer}
use Rattle.trial.proofs.load.Goals as goal

pub returns-in_err-o : goal.returns-in_err-o
returns-in_err-o c = rw c.from_residual.ensures (none_in _ _ _ c.opened_in.ensures _ _ c.in_err-o.was)

pub load-requires : goal.load-requires
load-requires c = (open_in _ _ _ c.opened_in.ensures _ c.in_ok-o.was).ranged

pub returns : goal.returns
returns c = load_answer (open_in _ _ _ c.opened_in.ensures _ c.in_ok-o.was) c.load.ensures
