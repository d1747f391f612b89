-- What `job::read_axis` owes.
use mathlib.Core.Path.{sym, ap, ◌∙◌}
use mathlib.Core.Bool.{not}
use Rattle.text.specs.Ascii.{bytes}
use Rattle.text.proofs.KeyLaws.{behind_is_some}
use Rattle.job.proofs.PartLaws.{axis_missing, axis_read}
use Rattle.job.proofs.read_axis.Goals as goal

pub returns-then-is_none : goal.returns-then-is_none
unfolding bytes
returns-then-is_none c = axis_missing (sym (behind_is_some _ _ _ c.after_key.ensures) ∙ c.is_none.ensures ∙ ap not c.if-is_none.true)

pub returns : goal.returns
unfolding bytes
returns c =
    axis_read _ (sym (behind_is_some _ _ _ c.after_key.ensures) ∙ c.is_none.ensures ∙ ap not c.if-is_none.false) c.requires c.axis_line.ensures
