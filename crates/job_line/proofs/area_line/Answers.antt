-- What `job_line::area_line` owes.
use mathlib.Core.Path.{sym, ◌∙◌}
use Rattle.text.specs.Ascii.{bytes}
use Rattle.job_line.proofs.LineLaws.{no_number, number_then_none, number_then_more, last_number, no_key, key_then_none, key_then, malformed, out_of_range}
use Rattle.job_line.proofs.LineLaws.{line_read}
use Rattle.job_line.proofs.area_line.Goals as goal

pub returns-in_err-unread : goal.returns-in_err-unread
unfolding bytes
returns-in_err-unread c = malformed _ _ (no_key c.in_err-unread.ensures) c.from_residual.ensures.1

pub returns-in_err-xlo : goal.returns-in_err-xlo
unfolding bytes
returns-in_err-xlo c =
    malformed _ _ (key_then_none c.in_ok-unread.ensures (no_number c.in_err-xlo.ensures)) c.from_residual-in_err-xlo.ensures.1

pub returns-in_err-ylo : goal.returns-in_err-ylo
unfolding bytes
returns-in_err-ylo c =
    malformed _ _ (key_then_none c.in_ok-unread.ensures (number_then_none c.in_ok-xlo.ensures (no_number c.in_err-ylo.ensures)))
    c.from_residual-in_err-ylo.ensures.1

pub returns-in_err-xhi : goal.returns-in_err-xhi
unfolding bytes
returns-in_err-xhi c =
    malformed _ _ (key_then_none c.in_ok-unread.ensures
    (number_then_none c.in_ok-xlo.ensures (number_then_none c.in_ok-ylo.ensures (no_number c.in_err-xhi.ensures)))) c.from_residual-in_err-xhi.ensures.1

pub returns-in_err-yhi : goal.returns-in_err-yhi
unfolding bytes
returns-in_err-yhi c =
    malformed _ _ (key_then_none c.in_ok-unread.ensures (number_then_none c.in_ok-xlo.ensures (number_then_none c.in_ok-ylo.ensures
    (number_then_none c.in_ok-xhi.ensures (no_number c.in_err-yhi.ensures))))) c.from_residual-in_err-yhi.ensures.1

pub returns-then-not-area_in_range : goal.returns-then-not-area_in_range
unfolding bytes
returns-then-not-area_in_range c =
    out_of_range (key_then c.in_ok-unread.ensures (number_then_more c.in_ok-xlo.ensures (number_then_more c.in_ok-ylo.ensures
    (number_then_more c.in_ok-xhi.ensures (last_number c.in_ok-yhi.ensures)))))
    (sym c.area_in_range.ensures ∙ c.if-not-area_in_range.true)

pub returns : goal.returns
unfolding bytes
returns c =
    line_read (key_then c.in_ok-unread.ensures (number_then_more c.in_ok-xlo.ensures (number_then_more c.in_ok-ylo.ensures
    (number_then_more c.in_ok-xhi.ensures (last_number c.in_ok-yhi.ensures)))))
    (sym c.area_in_range.ensures ∙ c.if-not-area_in_range.false) c.next_line.ensures
