-- What `job::last_line` owes.
use mathlib.Core.Path.{sym, ◌∙◌}
use Rattle.text.specs.Ascii.{bytes}
use Rattle.job.proofs.PartLaws.{handed, last_refused, last_more, last_alone}
use Rattle.job.proofs.last_line.Goals as goal

pub returns-in_err-rounds : goal.returns-in_err-rounds
unfolding bytes
returns-in_err-rounds c = rw (handed _ c.from_residual.ensures.1) (last_refused c.requires c.in_err-rounds.ensures)

pub returns-then-not-is_empty : goal.returns-then-not-is_empty
unfolding bytes
returns-then-not-is_empty c = last_more c.requires c.in_ok-rounds.left c.in_ok-rounds.ensures (sym c.is_empty.ensures ∙ c.if-not-is_empty.true)

pub returns : goal.returns
unfolding bytes
returns c = last_alone c.requires c.in_ok-rounds.left c.in_ok-rounds.ensures (sym c.is_empty.ensures ∙ c.if-not-is_empty.false)
