-- Lines multiplied by an axis cost.
use mathlib.Core.List.{List}
use Prim.Native.Nat.{ℕ, ◌≤◌, ◌<◌}
use native.Mathlib.Omega.{arith}
use lib.IntN.{ℤ, pos, nat_abs}
use lib.ListN.{length, get_or, length-map}
use Rattle.numbers.specs.Integer.{times}
use Rattle.numbers.proofs.Scaling.{scaled_at, scale_most}
use Rattle.query.specs.Range.{coordinate_limit, axis_cost_limit}
use Rattle.columns.specs.Ranges.{scaled_limit}
use Rattle.lines.specs.LineRecord.{lines_limit}
use Rattle.exhaustive.specs.Ramps.{scaled_lines, LinesInRange}

pub record ScaledInRange (ls : List ℤ) : Type 0 where
  pub few : length ls ≤ lines_limit
  pub range : (j : ℕ) → j < length ls → nat_abs (get_or ls j (pos 0)) ≤ scaled_limit

module _ (b : ℕ) (most : b ≤ axis_cost_limit) (ls : List ℤ) (lines : LinesInRange ls) where
  pub scaled_line : (j : ℕ) → j < length ls → nat_abs (times b (get_or ls j (pos 0))) ≤ scaled_limit
  scaled_line j h = scale_most b axis_cost_limit coordinate_limit (get_or ls j (pos 0)) most (lines.range j h)

  pub scaled_in_range : ScaledInRange (scaled_lines b ls)
  scaled_in_range = record {
    few = omega (arith, lines.in_order.few, length-map ls (times b));
    range = λ j h. rw (scaled_at b ls j) (scaled_line j (omega (arith, length-map ls (times b))));
  }
