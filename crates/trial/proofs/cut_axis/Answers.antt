-- What `trial::cut_axis` owes.
use mathlib.Core.Path.{◌∙◌}
use mir.Syntax.{w64}
use mir.ValLaws.{to_z-of_z}
use Rattle.trial.proofs.OpenLaws.{open_in, none_in}
use Rattle.trial.proofs.CutLaws.{axis_none, axis_answer}
use Rattle.trial.proofs.cut_axis.Goals as goal

pub returns-in_err-o : goal.returns-in_err-o
returns-in_err-o c = rw c.from_residual.ensures (none_in _ _ _ c.opened_in.ensures _ _ c.in_err-o.was)

pub cut_of-requires : goal.cut_of-requires
cut_of-requires c = (open_in _ _ _ c.opened_in.ensures _ c.in_ok-o.was).ranged

pub returns-in-Some : goal.returns-in-Some
returns-in-Some c =
    to_z-of_z w64 _ (record { sfits = c.axis_number.type_inv }) ∙ c.axis_number.ensures
    ∙ axis_answer (open_in _ _ _ c.opened_in.ensures _ c.in_ok-o.was) c.cut_of.ensures c.in-Some.is

pub returns-in-None : goal.returns-in-None
returns-in-None c = axis_none (open_in _ _ _ c.opened_in.ensures _ c.in_ok-o.was) c.cut_of.ensures c.in-None.is
