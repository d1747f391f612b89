-- What `job_line::field` owes.
use mathlib.Core.Path.{sym, ap, ◌∙◌}
use Rattle.std.specs.Prelude.{option_copied}
use Rattle.text.specs.TextReading.{number_read}
use Rattle.job_line.proofs.LineLaws.{ok_or_some, ok_or_none, if_some, field_none, field_off, field_on}
use Rattle.job_line.proofs.field.Goals as goal

pub returns-in_err-z : goal.returns-in_err-z
returns-in_err-z c =
    let none = ok_or_none _ (sym c.ok_or.ensures.value ∙ c.in_err-z.was) in
    field_none _ _ none.1 (sym (ap number_read none.0) ∙ c.number.ensures.number) _ c.from_residual.ensures.1

pub returns-in_err-text : goal.returns-in_err-text
returns-in_err-text c =
    let some = ok_or_some _ _ (sym c.ok_or.ensures.value ∙ c.in_ok-z.was) in
    let none = ok_or_none _ (sym c.ok_or-2.ensures.value ∙ c.in_err-text.was) in
    field_off _ _ _ _ (sym (ap number_read some) ∙ c.number.ensures.number) (sym (ap option_copied none.0) ∙ c.after_byte.ensures) none.1 _
    c.from_residual-in_err-text.ensures.1

pub returns : goal.returns
returns c =
    let some = ok_or_some _ _ (sym c.ok_or.ensures.value ∙ c.in_ok-z.was) in
    let left = ok_or_some _ _ (sym c.ok_or-2.ensures.value ∙ c.in_ok-text.was) in
    field_on _ _ _ _ (sym (ap number_read some) ∙ c.number.ensures.number) (if_some _ some c.number.ensures.nine_digits)
    (sym (ap option_copied left) ∙ c.after_byte.ensures)
