-- The loops of `exhaustive::ramp_sums::ObjectRamps::sweep`.
use Rattle.exhaustive.proofs.SweepLaws.{Sweeping}
use Rattle.exhaustive.proofs.ramp_sums.ObjectRamps.sweep.Given as goal

abbrev pub invariant-loop-k : goal.invariant-loop-k
invariant-loop-k l = Sweeping l.lines.at.now l.b l.self l.before l.initial.costs l.costs l.sums l.k
