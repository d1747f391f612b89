-- The loops of `exhaustive::choose`.
use Rattle.exhaustive.proofs.ChooseLaws.{Choosing}
use Rattle.exhaustive.proofs.choose.Given as goal

abbrev pub invariant-loop-j : goal.invariant-loop-j
invariant-loop-j l = Choosing l.lines.at.now l.coordinate l.costs l.initial.found l.found l.j
