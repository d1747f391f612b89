-- The loops of `exhaustive::Crossings::add_objects`.
use Rattle.columns.specs.ObjectColumns.{pricing_in}
use Rattle.reach.specs.Held.{columns_of_objects}
use Rattle.exhaustive.specs.Ramps.{ObjectsAdded}
use Rattle.exhaustive.proofs.Crossings.add_objects.Given as goal

abbrev pub invariant-loop-i : goal.invariant-loop-i
invariant-loop-i l = ObjectsAdded (pricing_in (columns_of_objects l.self.objects.now) l.i) l.i l.self.lines.at.now l.coordinate l.ramps
