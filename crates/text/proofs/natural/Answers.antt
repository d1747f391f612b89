-- What `text::natural` owes.
use mathlib.Core.Path.{sym, ◌∙◌}
use Rattle.text.proofs.KeyLaws.{behind_is_some}
use Rattle.text.proofs.DigitLaws.{natural_none, natural_long, natural_zero, natural_one, natural_more, natural_small, after_digits}
use Rattle.text.proofs.natural.Goals as goal
use Rattle.text.proofs.natural.Goals.{then-count-lt1-via-then-count-lt1, then-count-lt1-via-else-count-lt1+then-count-gt9}
use Rattle.text.proofs.natural.Goals.{else-count-gt1-via-then-count-gt1+else-is_some, else-count-gt1-via-else-count-gt1}

pub returns-then-count-lt1-clause-number : goal.returns-then-count-lt1-clause-number
returns-then-count-lt1-clause-number c = elim c.then-count-lt1.branch [
  | then-count-lt1-via-then-count-lt1 w ↦ natural_none c.digits-run.ensures w.if-count-lt1.true
  | then-count-lt1-via-else-count-lt1+then-count-gt9 w ↦ natural_long c.digits-run.ensures w.if-count-gt9.true
]

pub returns-then-is_some-clause-number : goal.returns-then-is_some-clause-number
returns-then-is_some-clause-number c =
    natural_zero c.digits-run.ensures c.if-count-lt1.false c.if-count-gt9.false c.if-count-gt1.true
    (sym (behind_is_some _ _ _ c.after_byte.ensures) ∙ sym c.is_some.ensures ∙ c.if-is_some.true)

pub split_at-requires : goal.split_at-requires
split_at-requires c = after_digits c.digits-run.ensures c.if-count-lt1.false c.if-count-gt9.false

pub returns-clause-number : goal.returns-clause-number
returns-clause-number c =
    let run = c.digits-run.ensures in
    rw c.split_at.ensures.back (elim c.else-count-gt1.branch [
      | else-count-gt1-via-then-count-gt1+else-is_some w ↦
          natural_more run c.if-count-lt1.false c.if-count-gt9.false
          (sym (behind_is_some _ _ _ w.after_byte.ensures) ∙ sym w.is_some.ensures ∙ w.if-is_some.false)
      | else-count-gt1-via-else-count-gt1 w ↦ natural_one run c.if-count-lt1.false c.if-count-gt9.false w.if-count-gt1.false
    ])

pub returns-clause-nine_digits : goal.returns-clause-nine_digits
returns-clause-nine_digits c = natural_small c.digits-run.ensures c.if-count-lt1.false c.if-count-gt9.false
