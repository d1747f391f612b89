-- What `u64`'s `put_text` owes.
use native.Mathlib.Omega.{arith}
use Rattle.write.proofs.DigitLaws.{stored_none, stored_more, stored_all}
use Rattle.write.proofs.U64Decimal.put_text.Goals as goal

pub loop-i-init : goal.loop-i-init
loop-i-init c = stored_none c.args.self c.args.out.now (omega arith) c.requires

pub loop-i-preserved : goal.loop-i-preserved
loop-i-preserved c = stored_more c.loop-i.invariant _ (omega arith)

pub returns : goal.returns
returns c = stored_all c.loop-i.invariant (omega arith)
