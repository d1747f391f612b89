-- What `i64`'s `put_text` owes.
use mathlib.Core.Path.{sym, ◌∙◌}
use native.Mathlib.Omega.{arith}
use lib.ListN.{length-set, length-take, length-drop}
use Rattle.write.proofs.IntLaws.{int_some, negative_length, negative_spelled, non_negative}
use Rattle.write.proofs.I64Decimal.put_text.Goals as goal

pub bounds-out-0 : goal.bounds-out-0
bounds-out-0 c = omega (arith, c.requires, int_some c.args.self)

pub slice_bounds-put_text-count : goal.slice_bounds-put_text-count
slice_bounds-put_text-count c = simp length-set (omega (arith, c.requires, int_some c.args.self))

pub slice_bounds-put_text-start : goal.slice_bounds-put_text-start
slice_bounds-put_text-start c = simp length-set (omega (arith, c.requires, int_some c.args.self))

pub put_text-requires : goal.put_text-requires
put_text-requires c =
    let parts = negative_length c.args.self c.unsigned_abs-digits.result c.ranges.self c.if-self-lt0.true c.unsigned_abs-digits.ensures.value in
    simp (length-take, length-drop, length-set) (omega (arith, c.requires, parts))

pub put_text-requires-else-self-lt0 : goal.put_text-requires-else-self-lt0
put_text-requires-else-self-lt0 c =
    rw (← non_negative c.args.self c.unsigned_abs-digits.result c.ranges.self c.if-self-lt0.false c.unsigned_abs-digits.ensures.value) c.requires

pub returns-then-self-lt0 : goal.returns-then-self-lt0
returns-then-self-lt0 c =
    negative_spelled c.args.self c.unsigned_abs-digits.result c.args.out.now c.ranges.self c.if-self-lt0.true c.unsigned_abs-digits.ensures.value c.requires
    c.put_text.ensures

pub returns-else-self-lt0 : goal.returns-else-self-lt0
returns-else-self-lt0 c =
    c.put_text-else-self-lt0.ensures
    ∙ sym (non_negative c.args.self c.unsigned_abs-digits.result c.ranges.self c.if-self-lt0.false c.unsigned_abs-digits.ensures.value)
