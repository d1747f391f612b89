-- What `siting::write` owes.
use native.Mathlib.Omega.{arith}
use Rattle.std.proofs.lemmas.Result.{err_from_is_err_and}
use Rattle.siting.proofs.SavingLaws.{write_refused, file_fine, write_short, write_written}
use Rattle.siting.proofs.write.Goals as goal

pub returns-in_err-check : goal.returns-in_err-check
returns-in_err-check c =
    let p = err_from_is_err_and c.from_residual.result c.from_residual.ensures.1 in
    rw (p.1, p.2) (write_refused _ _ c.check.ensures.refusal _ _ c.in_err-check.was)

pub file_len-requires : goal.file_len-requires
file_len-requires c =
    let f = file_fine _ _ c.check.ensures.refusal c.check.ensures.sized c.in_ok-check.was in
    (f.few_posts, f.few_stops)

pub returns-then-out-file_len : goal.returns-then-out-file_len
returns-then-out-file_len c =
    write_short _ _ c.check.ensures.refusal c.check.ensures.sized c.in_ok-check.was _ _ c.file_len.ensures (omega (arith, c.if-out-file_len.true))

pub put_file-requires : goal.put_file-requires
put_file-requires c =
    let f = file_fine _ _ c.check.ensures.refusal c.check.ensures.sized c.in_ok-check.was in
    (f.few_posts, f.few_stops, omega (arith, c.file_len.ensures, c.if-out-file_len.false))

pub returns : goal.returns
returns c =
    write_written _ _ c.check.ensures.refusal c.check.ensures.sized c.in_ok-check.was _ (omega (arith, c.file_len.ensures, c.if-out-file_len.false))
    c.put_file.ensures
