-- What `trial::cut_line` owes.
use mathlib.Core.Path.{◌∙◌}
use mir.Syntax.{w64}
use mir.ValLaws.{to_z-of_z}
use borrow.Author.Rules.{rules}
use Rattle.trial.proofs.OpenLaws.{open_in, none_in}
use Rattle.trial.proofs.CutLaws.{no_line, line_none, line_answer}
use Rattle.trial.proofs.cut_line.Goals as goal

pub returns-in_err-o : goal.returns-in_err-o
returns-in_err-o c = rw c.from_residual.ensures (no_line _ _ (none_in _ _ _ c.opened_in.ensures _ _ c.in_err-o.was))

pub cut_of-requires : goal.cut_of-requires
cut_of-requires c = (open_in _ _ _ c.opened_in.ensures _ c.in_ok-o.was).ranged

pub returns-in_err-cut : goal.returns-in_err-cut
returns-in_err-cut c =
    rw c.from_residual-in_err-cut.ensures
    (line_none (open_in _ _ _ c.opened_in.ensures _ c.in_ok-o.was) c.cut_of.ensures c.in_err-cut.was)

pub returns : goal.returns
returns c =
    to_z-of_z w64 _ (search rules) ∙ line_answer (open_in _ _ _ c.opened_in.ensures _ c.in_ok-o.was) c.cut_of.ensures c.in_ok-cut.was
