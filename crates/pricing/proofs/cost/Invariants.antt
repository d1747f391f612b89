-- The loops of `pricing::cost`.
use Rattle.reach.specs.Held.{columns_of_objects}
use Rattle.pricing.proofs.ObjectLaws.{paid_by}
use Rattle.pricing.proofs.ColumnLaws.{Passed}
use Rattle.pricing.proofs.TurnLaws.{paid_limit}
use Rattle.pricing.proofs.cost.Given as goal

abbrev pub invariant-loop-i : goal.invariant-loop-i
invariant-loop-i l = Passed (paid_by (record { x = l.post.x; y = l.post.y })) paid_limit (columns_of_objects l.objects) l.sum l.i
