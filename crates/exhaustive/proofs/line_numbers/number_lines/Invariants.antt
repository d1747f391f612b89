-- The loops of `exhaustive::line_numbers::number_lines`.
use Rattle.exhaustive.proofs.TableLaws.{Numbering}
use Rattle.exhaustive.proofs.line_numbers.number_lines.Given as goal

abbrev pub invariant-loop-j : goal.invariant-loop-j
invariant-loop-j l = Numbering l.horizontal l.j l.from l.table
