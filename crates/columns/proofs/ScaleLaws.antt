-- A coordinate multiplied by an axis cost, in 32-bit words.
use mathlib.Core.Path.{◌≡◌, refl, ap, ◌∙◌}
use Prim.Native.Nat.{ℕ, ◌≤◌}
use native.Mathlib.Omega.{arith}
use lib.IntN.{ℤ, pos, negsuc, nat_abs, ◌*ℤ◌}
use lib.Signed.{◌≤ℤ◌}
use mir.Syntax.{w32, w64}
use mir.Val.{to_z, of_z}
use mir.ValLaws.{to_z_pos}
use Rattle.numbers.specs.Integer.{times}
use Rattle.numbers.proofs.Integer.{order}
use Rattle.numbers.proofs.Scaling.{scale_most}
use Rattle.query.specs.Place.{Place, Axis, x_axis, y_axis}
use Rattle.query.specs.Place.{coordinate as along}
use Rattle.query.specs.Range.{PlaceInRange, coordinate_limit, axis_cost_limit}
use Rattle.columns.specs.Ranges.{AxisCostInRange, Scaled, scaled_limit}
use Rattle.columns.proofs.WordLaws.{coordinate, wide, narrowed}

natural : (k : ℤ) → pos 1 ≤ℤ k → k ≡ pos (nat_abs k)
natural (pos k) h = omega (arith, order)
natural (negsuc k) h = absurd (omega (arith, order))

pub natural_word : (n : ℕ) → n ≤ axis_cost_limit → to_z w32 n ≡ pos n
natural_word n h = to_z_pos w32 n (omega arith)

module _ (k v : ℤ) (cost : AxisCostInRange k) (h : nat_abs v ≤ coordinate_limit) where
  product_is : to_z w32 (of_z w32 k) *ℤ to_z w32 (of_z w32 (to_z w64 (of_z w64 v))) ≡ times (nat_abs k) v
  unfolding times
  product_is = (λ i. coordinate k (omega (arith, cost.most)) i *ℤ narrowed v (omega arith) i) ∙ ap (λ (z : ℤ). z *ℤ v) (natural k cost.some)

  small : nat_abs (times (nat_abs k) v) ≤ scaled_limit
  small = scale_most (nat_abs k) axis_cost_limit coordinate_limit v cost.most h

  pub product_scaled : Scaled k v (to_z w32 (of_z w32 (to_z w32 (of_z w32 k) *ℤ to_z w32 (of_z w32 (to_z w64 (of_z w64 v))))))
  product_scaled = rw (product_is, coordinate (times (nat_abs k) v) small) (record { is = refl; small = small })

-- what `scaled` gives of words
pub scaled_word : {k r : ℤ} (v : ℤ) → nat_abs v ≤ coordinate_limit → Scaled k (to_z w64 (of_z w64 v)) r → to_z w32 (of_z w32 r) ≡ times (nat_abs k) v
scaled_word {k} {r} v h e = coordinate r e.small ∙ e.is ∙ ap (times (nat_abs k)) (wide v (omega arith))

-- the coordinate along an axis of a place in range
pub along_range : (axis : Axis) {p : Place} → PlaceInRange p → nat_abs (along axis p) ≤ coordinate_limit
along_range x_axis range = range.x_range
along_range y_axis range = range.y_range
