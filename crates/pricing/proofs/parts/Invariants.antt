-- The loops of `pricing::parts`.
use Rattle.reach.specs.Held.{columns_of_objects}
use Rattle.pricing.proofs.SpareLaws.{PartsSummed}
use Rattle.pricing.proofs.parts.Given as goal

abbrev pub invariant-loop-i : goal.invariant-loop-i
invariant-loop-i l = PartsSummed (columns_of_objects l.objects) l.spared l.at_low l.at_high l.in_first l.in_second l.i
