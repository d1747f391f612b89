-- The loops of `reach::reach_flags`.
use Rattle.reach.specs.Held.{edges_rect}
use Rattle.reach.proofs.RowLaws.{Flagged}
use Rattle.reach.proofs.reach_flags.Given as goal

abbrev pub invariant-loop-i : goal.invariant-loop-i
invariant-loop-i l = Flagged l.objects.columns (edges_rect l.edges) l.flags l.i
