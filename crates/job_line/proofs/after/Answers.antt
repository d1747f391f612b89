-- What `job_line::after` owes.
use mathlib.Core.Path.{sym, ap, ◌∙◌}
use Rattle.std.specs.Prelude.{option_copied}
use Rattle.job_line.proofs.LineLaws.{ok_or_some, ok_or_none, key_found, key_missing}
use Rattle.job_line.proofs.after.Goals as goal

pub returns-in_err-text : goal.returns-in_err-text
returns-in_err-text c =
    let none = ok_or_none _ (sym c.ok_or.ensures.value ∙ c.in_err-text.was) in
    key_missing _ _ (sym (ap option_copied none.0) ∙ c.after_key.ensures) none.1 _ c.from_residual.ensures.1

pub returns : goal.returns
returns c =
    let some = ok_or_some _ _ (sym c.ok_or.ensures.value ∙ c.in_ok-text.was) in
    key_found _ _ (sym (ap option_copied some) ∙ c.after_key.ensures)
