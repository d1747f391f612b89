-- The loops of `kernels::sum_turns`.
use Rattle.query.specs.Range.{cost_limit}
use Rattle.deck.specs.DeckOf.{deck_of}
use Rattle.kernels.proofs.SumLaws.{Summed}
use Rattle.kernels.proofs.sum_turns.Given as goal

abbrev pub invariant-loop-t : goal.invariant-loop-t
invariant-loop-t g l = Summed (g.K.Kernel.figure (deck_of l.o.deck)) cost_limit l.turns l.sum l.t
