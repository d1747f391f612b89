-- The sides of a scaled rectangle, and both together: the span.
use mathlib.Core.Path.{◌≡◌, ◌∙◌}
use Prim.Native.Nat.{◌+◌, ◌*◌, ◌≤◌}
use native.Mathlib.Omega.{arith}
use lib.IntN.{ℤ, pos, nat_abs, ◌-ℤ◌}
use lib.Signed.{◌≤ℤ◌}
use mir.Syntax.{w32}
use Rattle.numbers.specs.Integer.{dist}
use Rattle.numbers.proofs.Integer.{order, sub_nat, dist_nat}
use Rattle.numbers.proofs.Distance.{dist_most}
use Rattle.numbers.proofs.Scaling.{dist_scale}
use Rattle.numbers.proofs.Words.{natural_is}
use Rattle.query.specs.Place.{Rect}
use Rattle.query.specs.Deck.{AxisCosts}
use Rattle.query.specs.CornerBound.{span}
use Rattle.query.specs.Range.{travel_limit}
use Rattle.columns.specs.Ranges.{scaled_limit}
use Rattle.reach.specs.Held.{EdgesOf}
use Rattle.reach.specs.declared.rectangle.Edges.{Edges}
use Rattle.reach.proofs.NarrowLaws.{word, number_word}
use Rattle.pricing.specs.ObjectFigures.{Figure}

module _ (lo hi : ℤ) (g : nat_abs lo ≤ scaled_limit) (h : nat_abs hi ≤ scaled_limit) (k : lo ≤ℤ hi) where
  side_is : word hi -ℤ word lo ≡ pos (dist lo hi)
  side_is = rw (number_word hi (omega arith), number_word lo (omega arith)) (omega (arith, order, sub_nat hi lo, dist_nat lo hi))

  side_most : dist lo hi ≤ 2 * scaled_limit
  side_most = omega (arith, dist_most scaled_limit lo hi g h)

  side_value : nat_abs (word (word hi -ℤ word lo)) ≡ dist lo hi
  side_value = natural_is w32 (word hi -ℤ word lo) (dist lo hi) side_is (omega (arith, side_most))

-- both
module _ {axis : AxisCosts} {r : Rect} {e : Edges} (h : EdgesOf axis r e) where
  width_is : dist e.xlo e.xhi ≡ axis.a * dist r.xlo r.xhi
  width_is = (λ i. dist (h.are i).xlo (h.are i).xhi) ∙ dist_scale axis.a r.xlo r.xhi

  height_is : dist e.ylo e.yhi ≡ axis.b * dist r.ylo r.yhi
  height_is = (λ i. dist (h.are i).ylo (h.are i).yhi) ∙ dist_scale axis.b r.ylo r.yhi

  pub span_is : Figure (span axis r) travel_limit (nat_abs (word (word e.xhi -ℤ word e.xlo)) + nat_abs (word (word e.yhi -ℤ word e.ylo)))
  unfolding span
  span_is =
      let low = h.range.low in
      let high = h.range.high in
      rw (
        side_value e.xlo e.xhi low.x_range high.x_range h.range.across,
        side_value e.ylo e.yhi low.y_range high.y_range h.range.deep,
      )
      (record {
        is = omega (arith, width_is, height_is);
        within = omega (
          arith,
          side_most e.xlo e.xhi low.x_range high.x_range h.range.across,
          side_most e.ylo e.yhi low.y_range high.y_range h.range.deep,
        );
      })
