-- What `job_line::stop_line` owes.
use mathlib.Core.Path.{sym, ◌∙◌}
use Rattle.text.specs.Ascii.{bytes}
use Rattle.job_line.proofs.LineLaws.{no_number, number_then_none, number_then_more, last_number, no_key, key_then_none, key_then, malformed, out_of_range}
use Rattle.job_line.proofs.LineLaws.{line_read, last_natural, field_cast}
use mathlib.Core.List.{[], ◌∷◌}
use Rattle.job_line.proofs.RangeTests.{stop_natural}
use Rattle.job_line.proofs.stop_line.Goals as goal

pub returns-in_err-unread : goal.returns-in_err-unread
unfolding bytes
returns-in_err-unread c = malformed _ _ (no_key c.in_err-unread.ensures) c.from_residual.ensures.1

pub returns-in_err-x : goal.returns-in_err-x
unfolding bytes
returns-in_err-x c =
    malformed _ _ (key_then_none c.in_ok-unread.ensures (no_number c.in_err-x.ensures)) c.from_residual-in_err-x.ensures.1

pub returns-in_err-y : goal.returns-in_err-y
unfolding bytes
returns-in_err-y c =
    malformed _ _ (key_then_none c.in_ok-unread.ensures (number_then_none c.in_ok-x.ensures (no_number c.in_err-y.ensures))) c.from_residual-in_err-y.ensures.1

pub returns-in_err-visits : goal.returns-in_err-visits
unfolding bytes
returns-in_err-visits c =
    malformed _ _ (key_then_none c.in_ok-unread.ensures
    (number_then_none c.in_ok-x.ensures (number_then_none c.in_ok-y.ensures (no_number c.in_err-visits.ensures)))) c.from_residual-in_err-visits.ensures.1

pub returns-then-not-stop_in_range : goal.returns-then-not-stop_in_range
unfolding bytes
returns-then-not-stop_in_range c =
    out_of_range (key_then c.in_ok-unread.ensures
    (number_then_more c.in_ok-x.ensures (number_then_more c.in_ok-y.ensures (last_number c.in_ok-visits.ensures))))
    (sym c.stop_in_range.ensures ∙ c.if-not-stop_in_range.true)

pub overflow_cast-visits : goal.overflow_cast-visits
overflow_cast-visits c =
    field_cast c.in_ok-visits.ensures
    (stop_natural _ _ _ (sym c.stop_in_range.ensures ∙ c.if-not-stop_in_range.false))

pub returns : goal.returns
unfolding bytes
returns c =
    let on = sym c.stop_in_range.ensures ∙ c.if-not-stop_in_range.false in
    last_natural (_ ∷ _ ∷ []) _ (stop_natural _ _ _ on) (line_read (key_then c.in_ok-unread.ensures
    (number_then_more c.in_ok-x.ensures (number_then_more c.in_ok-y.ensures (last_number c.in_ok-visits.ensures))))
    on c.next_line.ensures)
