-- The travel between two places, by their words.
use mathlib.Core.Path.{◌≡◌, ◌∙◌}
use Prim.Native.Nat.{ℕ, ◌+◌, ◌^◌, ◌<◌}
use native.Mathlib.Omega.{arith}
use lib.IntN.{ℤ, pos, ◌+ℤ◌}
use mir.Syntax.{w32}
use mir.Val.{to_z, of_z}
use Rattle.numbers.specs.Integer.{dist}
use Rattle.numbers.proofs.Distance.{dist_most}
use Rattle.numbers.proofs.Scaling.{dist_scale}
use Rattle.query.specs.Place.{Place}
use Rattle.query.specs.Deck.{AxisCosts, plain}
use Rattle.query.specs.Travel.{travel}
use Rattle.columns.specs.Objects.{scaled_place}
use Rattle.columns.specs.Ranges.{ScaledPlaceInRange, scaled_limit}
use Rattle.columns.proofs.WordLaws.{sum_is, coordinate}

abbrev pub far : ℤ → ℤ → ℤ → ℤ → ℕ
far ux uy vx vy = dist ux vx + dist uy vy

pub travel_plain : (p q : Place) → travel plain p q ≡ far p.x p.y q.x q.y
unfolding travel
travel_plain p q = omega arith

pub travel_scaled : (c : AxisCosts) (p q : Place) → travel c p q ≡ travel plain (scaled_place c p) (scaled_place c q)
unfolding travel
travel_scaled c p q = omega (arith, dist_scale c.a p.x q.x, dist_scale c.b p.y q.y)

pub place_word : {x y : ℤ} → ScaledPlaceInRange x y → ScaledPlaceInRange (to_z w32 (of_z w32 x)) (to_z w32 (of_z w32 y))
place_word {x} {y} h = rw (coordinate x h.x_range, coordinate y h.y_range) h

module _ (ux uy vx vy : ℤ) (u : ScaledPlaceInRange ux uy) (v : ScaledPlaceInRange vx vy) where
  pub far_small : far ux uy vx vy < 2 ^ 31
  far_small = omega (arith, dist_most scaled_limit ux vx u.x_range v.x_range, dist_most scaled_limit uy vy u.y_range v.y_range)

  pub far_sum : (a b : ℤ) → a ≡ pos (dist (to_z w32 (of_z w32 ux)) (to_z w32 (of_z w32 vx)))
      → b ≡ pos (dist (to_z w32 (of_z w32 uy)) (to_z w32 (of_z w32 vy))) →
      to_z w32 (of_z w32 a) +ℤ to_z w32 (of_z w32 b) ≡ pos (far ux uy vx vy)
  far_sum a b p q =
      sum_is a b (dist ux vx) (dist uy vy)
      (p ∙ rw (coordinate ux u.x_range, coordinate vx v.x_range)) (q ∙ rw (coordinate uy u.y_range, coordinate vy v.y_range))
      (omega (arith, dist_most scaled_limit ux vx u.x_range v.x_range)) (omega (arith, dist_most scaled_limit uy vy u.y_range v.y_range))
