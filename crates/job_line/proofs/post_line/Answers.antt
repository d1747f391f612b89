-- What `job_line::post_line` owes.
use mathlib.Core.Path.{sym, ◌∙◌}
use Rattle.text.specs.Ascii.{bytes}
use Rattle.job_line.proofs.LineLaws.{no_number, number_then_none, number_then_more, last_number, no_key, key_then_none, key_then, malformed, out_of_range}
use Rattle.job_line.proofs.LineLaws.{line_read}
use Rattle.job_line.proofs.post_line.Goals as goal

pub returns-in_err-unread : goal.returns-in_err-unread
unfolding bytes
returns-in_err-unread c = malformed _ _ (no_key c.in_err-unread.ensures) c.from_residual.ensures.1

pub returns-in_err-x : goal.returns-in_err-x
unfolding bytes
returns-in_err-x c =
    malformed _ _ (key_then_none c.in_ok-unread.ensures (no_number c.in_err-x.ensures)) c.from_residual-in_err-x.ensures.1

pub returns-in_err-y : goal.returns-in_err-y
unfolding bytes
returns-in_err-y c =
    malformed _ _ (key_then_none c.in_ok-unread.ensures (number_then_none c.in_ok-x.ensures (no_number c.in_err-y.ensures))) c.from_residual-in_err-y.ensures.1

pub returns-then-not-place_in_range : goal.returns-then-not-place_in_range
unfolding bytes
returns-then-not-place_in_range c =
    out_of_range (key_then c.in_ok-unread.ensures (number_then_more c.in_ok-x.ensures (last_number c.in_ok-y.ensures)))
    (sym c.place_in_range.ensures ∙ c.if-not-place_in_range.true)

pub returns : goal.returns
unfolding bytes
returns c =
    line_read (key_then c.in_ok-unread.ensures (number_then_more c.in_ok-x.ensures (last_number c.in_ok-y.ensures)))
    (sym c.place_in_range.ensures ∙ c.if-not-place_in_range.false) c.next_line.ensures
