-- The loops of `corner_bound::load`.
use Rattle.query.specs.Range.{visits_limit}
use Rattle.reach.specs.Held.{columns_of_objects, edges_rect}
use Rattle.corner_bound.proofs.LoadLaws.{borne_by}
use Rattle.pricing.proofs.ColumnLaws.{Passed}
use Rattle.corner_bound.proofs.load.Given as goal

abbrev pub invariant-loop-i : goal.invariant-loop-i
invariant-loop-i l = Passed (borne_by (edges_rect l.edges)) visits_limit (columns_of_objects l.objects) l.sum l.i
