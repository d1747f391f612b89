-- What `job_line::axis_line` owes.
use mathlib.Core.Path.{sym, ◌∙◌}
use Rattle.text.specs.Ascii.{bytes}
use Rattle.job_line.proofs.LineLaws.{no_number, number_then_none, number_then_more, last_number, no_key, key_then_none, key_then, malformed, out_of_range}
use Rattle.job_line.proofs.LineLaws.{line_read, field_below, two_naturals}
use Rattle.job_line.proofs.RangeTests.{first_below, second_below}
use Rattle.job_line.proofs.axis_line.Goals.{in_default-via-in-Ok+in_default, in_default-via-in_default}
use Rattle.job_line.proofs.axis_line.Goals as goal

pub returns-in_err-unread : goal.returns-in_err-unread
unfolding bytes
returns-in_err-unread c = malformed _ _ (no_key c.in_err-unread.ensures) c.from_residual.ensures.1

pub returns-in_err-x_cost : goal.returns-in_err-x_cost
unfolding bytes
returns-in_err-x_cost c =
    malformed _ _ (key_then_none c.in_ok-unread.ensures (no_number c.in_err-x_cost.ensures)) c.from_residual-in_err-x_cost.ensures.1

pub returns-in_err-y_cost : goal.returns-in_err-y_cost
unfolding bytes
returns-in_err-y_cost c =
    malformed _ _ (key_then_none c.in_ok-unread.ensures (number_then_none c.in_ok-x_cost.ensures (no_number c.in_err-y_cost.ensures)))
    c.from_residual-in_err-y_cost.ensures.1

pub returns-in_default : goal.returns-in_default
unfolding bytes
returns-in_default c =
    let form = key_then c.in_ok-unread.ensures (number_then_more c.in_ok-x_cost.ensures (last_number c.in_ok-y_cost.ensures)) in
    elim c.in_default.branch [
      | in_default-via-in-Ok+in_default w ↦ out_of_range form (second_below _ _ (field_below c.in_ok-y_cost.ensures w.in_default.ensures'))
      | in_default-via-in_default w ↦ out_of_range form (first_below _ _ (field_below c.in_ok-x_cost.ensures (rw w.in_default.is-0 at c.try_from.ensures)))
    ]

pub returns-then-not-axis_in_range : goal.returns-then-not-axis_in_range
unfolding bytes
returns-then-not-axis_in_range c =
    out_of_range (two_naturals c.in-Ok-Ok.ensures c.in-Ok-Ok.ensures'
    (key_then c.in_ok-unread.ensures (number_then_more c.in_ok-x_cost.ensures (last_number c.in_ok-y_cost.ensures))))
    (sym c.axis_in_range.ensures ∙ c.if-not-axis_in_range.true)

pub returns : goal.returns
unfolding bytes
returns c =
    line_read (two_naturals c.in-Ok-Ok.ensures c.in-Ok-Ok.ensures'
    (key_then c.in_ok-unread.ensures (number_then_more c.in_ok-x_cost.ensures (last_number c.in_ok-y_cost.ensures))))
    (sym c.axis_in_range.ensures ∙ c.if-not-axis_in_range.false) c.next_line.ensures
