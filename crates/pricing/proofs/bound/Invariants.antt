-- The loops of `pricing::bound`.
use Rattle.reach.specs.Held.{columns_of_objects, edges_rect}
use Rattle.pricing.proofs.ObjectLaws.{least_paid_by}
use Rattle.pricing.proofs.ColumnLaws.{Passed}
use Rattle.pricing.proofs.TurnLaws.{paid_limit}
use Rattle.pricing.proofs.bound.Given as goal

abbrev pub invariant-loop-i : goal.invariant-loop-i
invariant-loop-i l = Passed (least_paid_by (edges_rect l.edges)) paid_limit (columns_of_objects l.objects) l.sum l.i
