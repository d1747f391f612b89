-- The loops of `exhaustive::number_objects`.
use Rattle.exhaustive.proofs.AllObjects.{Finding}
use Rattle.exhaustive.proofs.number_objects.Given as goal

abbrev pub invariant-loop-i : goal.invariant-loop-i
invariant-loop-i l = Finding l.objects l.lines.at.now l.initial.rows l.rows l.i
