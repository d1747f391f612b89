-- What `i64`'s `text_len` owes.
use native.Mathlib.Omega.{arith}
use Rattle.write.proofs.IntLaws.{int_length}
use Rattle.write.proofs.I64Decimal.text_len.Goals as goal

pub returns-clause-value : goal.returns-clause-value
returns-clause-value c =
    let e = int_length c.args.self c.unsigned_abs.result c.ranges.self c.unsigned_abs.ensures.value in
    omega (arith, c.text_len.ensures.value, c.from.ensures, e)
