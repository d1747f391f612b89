-- The loops of `exhaustive::Crossings::cheapest_of`.
use mathlib.Core.Path.{◌≡◌}
use lib.ListN.{length}
use Rattle.lines.specs.LineRecord.{lines_limit}
use Rattle.reach.specs.Held.{pricing_of_objects}
use Rattle.exhaustive.proofs.CheapestOfLines.{Compared}
use Rattle.exhaustive.proofs.Crossings.cheapest_of.Given as goal

abbrev pub invariant-loop-v : goal.invariant-loop-v
invariant-loop-v l =
    (length l.costs ≡ lines_limit) × Compared (pricing_of_objects l.self.objects.now) l.self.lines.at.now l.vertical l.initial.found l.found l.v-index
