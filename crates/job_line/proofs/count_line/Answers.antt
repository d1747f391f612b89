-- What `job_line::count_line` owes.
use Rattle.job_line.proofs.LineLaws.{no_number, last_number, no_key, key_then_none, key_then, malformed, out_of_range}
use Rattle.job_line.proofs.LineLaws.{line_read, one_natural, field_below}
use Rattle.job_line.proofs.RangeTests.{count_below, count_above, count_within}
use Rattle.job_line.proofs.count_line.Goals as goal

pub returns-in_err-unread : goal.returns-in_err-unread
returns-in_err-unread c = malformed _ _ (no_key c.in_err-unread.ensures) c.from_residual.ensures.1

pub returns-in_err-z : goal.returns-in_err-z
returns-in_err-z c =
    malformed _ _ (key_then_none c.in_ok-unread.ensures (no_number c.in_err-z.ensures)) c.from_residual-in_err-z.ensures.1

pub returns-in_default : goal.returns-in_default
returns-in_default c =
    out_of_range (key_then c.in_ok-unread.ensures (last_number c.in_ok-z.ensures))
    (count_below _ _ (field_below c.in_ok-z.ensures c.in_default.ensures))

pub returns-then-most-n : goal.returns-then-most-n
returns-then-most-n c =
    out_of_range (one_natural c.in-Ok.ensures (key_then c.in_ok-unread.ensures (last_number c.in_ok-z.ensures)))
    (count_above _ _ c.if-most-n.true)

pub returns : goal.returns
returns c =
    line_read (one_natural c.in-Ok.ensures (key_then c.in_ok-unread.ensures (last_number c.in_ok-z.ensures)))
    (count_within _ _ c.if-most-n.false) c.next_line.ensures
