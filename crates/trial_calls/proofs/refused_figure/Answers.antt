-- What `trial_calls::refused_figure` owes.
use mathlib.Core.Path.{◌∙◌}
use mir.Syntax.{w64}
use mir.ValLaws.{to_z-of_z}
use Rattle.trial_calls.proofs.CallLaws.{no_figure, behind_figures}
use Rattle.trial_calls.proofs.refused_figure.Goals as goal

pub returns-then-which-figures : goal.returns-then-which-figures
returns-then-which-figures c = no_figure c.args.figures c.args.why c.args.which c.if-which-figures.true

pub returns : goal.returns
returns c =
    to_z-of_z w64 _ (record { sfits = c.refusal_figure.type_inv }) ∙ c.refusal_figure.ensures
    ∙ behind_figures c.args.figures c.args.why c.args.which c.if-which-figures.false
