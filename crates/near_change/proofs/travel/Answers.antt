-- What `near_change::travel` owes.
use native.Mathlib.Omega.{arith}
use Rattle.near_change.proofs.NearLaws.{x_cost, y_cost, travel_found}
use Rattle.near_change.proofs.travel.Goals as goal

pub overflow_mul-result : goal.overflow_mul-result
overflow_mul-result c = omega (arith, x_cost c.requires.0 c.requires.1 c.requires.2 c.abs_diff.ensures)

pub overflow_mul-result-2 : goal.overflow_mul-result-2
overflow_mul-result-2 c = omega (arith, y_cost c.requires.0 c.requires.1 c.requires.2 c.abs_diff-2.ensures)

pub overflow_add-result : goal.overflow_add-result
overflow_add-result c =
    omega (
      arith,
      x_cost c.requires.0 c.requires.1 c.requires.2 c.abs_diff.ensures,
      y_cost c.requires.0 c.requires.1 c.requires.2 c.abs_diff-2.ensures,
    )

pub returns : goal.returns
returns c = travel_found c.requires.0 c.requires.1 c.requires.2 c.abs_diff.ensures c.abs_diff-2.ensures
