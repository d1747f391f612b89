-- The loop of `text::digits`.
use Rattle.text.proofs.DigitLaws.{Scanned}
use Rattle.text.proofs.digits.Given as goal

abbrev pub invariant-loop-count : goal.invariant-loop-count
invariant-loop-count l = Scanned l.text l.count l.value l.rest
