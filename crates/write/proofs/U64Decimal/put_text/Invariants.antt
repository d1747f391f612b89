-- The loop of `u64`'s `put_text`.
use Rattle.text.specs.Decimal.{spell_nat}
use Rattle.write.proofs.DigitLaws.{Stored}
use Rattle.write.proofs.U64Decimal.put_text.Given as goal

abbrev pub invariant-loop-i : goal.invariant-loop-i
invariant-loop-i l = Stored (spell_nat l.self) l.out l.rest l.i
