-- Rows, scaled places and scaled rectangles as 32-bit words, which hold their numbers.
use mathlib.Core.Path.{◌≡◌, refl, sym, ap, subst, ◌∙◌}
use Prim.Native.Nat.{ℕ, ◌^◌, ◌≤◌, ◌<◌}
use native.Mathlib.Omega.{arith}
use lib.IntN.{ℤ, pos, negsuc, nat_abs}
use lib.Signed.{◌≤ℤ◌}
use mir.Syntax.{w32}
use mir.Val.{SFits, to_z, of_z}
use mir.ValLaws.{to_z-of_z}
use Rattle.numbers.specs.Integer.{times}
use Rattle.numbers.proofs.Scaling.{scale_most, scale_le}
use Rattle.numbers.proofs.Words.{word_fits}
use Rattle.numbers.proofs.WordTests.{back}
use Rattle.query.specs.Place.{Place, Rect}
use Rattle.query.specs.Deck.{AxisCosts}
use Rattle.query.specs.Range.{PlaceInRange, coordinate_limit, axis_cost_limit, travel_limit}
use Rattle.deck.specs.Ranges.{CostsInRange}
use Rattle.columns.specs.Ranges.{ScaledPlaceInRange, Scaled, scaled_limit}
use Rattle.columns.specs.Objects.{scaled_rect}
use Rattle.columns.proofs.ScaleLaws.{natural_word as cost_word, scaled_word}
use Rattle.reach.specs.Columns.{ObjectInRange, Ranged, EdgesInRange}

-- a number as a 32-bit word holds it
abbrev pub word : ℤ → ℤ
word z = to_z w32 (of_z w32 z)

-- ---- natural numbers in signed words
pub natural : (z : ℤ) → pos 0 ≤ℤ z → z ≡ pos (nat_abs z)
natural (pos n) h = refl
natural (negsuc n) h = absurd h.le

pub natural_word : (z : ℤ) → pos 0 ≤ℤ z → of_z w32 z ≡ nat_abs z
natural_word z h = rw (natural z h)

pub natural_small : (z : ℤ) → SFits w32 z → pos 0 ≤ℤ z → nat_abs z < 2 ^ 31
natural_small (pos n) f h = f.sfits
natural_small (negsuc n) f h = absurd h.le

-- ---- a row
pub number_word : (z : ℤ) → nat_abs z ≤ travel_limit → word z ≡ z
number_word z h = to_z-of_z w32 z (word_fits w32 z (omega arith))

module _ {x y visits near : ℤ} (row : ObjectInRange x y visits near) where
  pub visits_word : word visits ≡ visits
  visits_word = number_word visits (omega (arith, row.visits_range))

  pub near_word : word near ≡ near
  near_word = number_word near row.near_range

-- ---- a place and a rectangle, scaled
module _ {k : ℕ} (most : k ≤ axis_cost_limit) where
  pub scaled_by : {r : ℤ} (v : ℤ) → nat_abs v ≤ coordinate_limit → Scaled (to_z w32 k) (back v) r → word r ≡ times k v
  scaled_by {r} v h e = scaled_word v h e ∙ ap (λ (z : ℤ). times (nat_abs z) v) (cost_word k most)

  pub scaled_small : (v : ℤ) → nat_abs v ≤ coordinate_limit → nat_abs (times k v) ≤ scaled_limit
  scaled_small v h = scale_most k axis_cost_limit coordinate_limit v most h

module _ {axis : AxisCosts} (costs : CostsInRange axis) where
  pub place_scaled : (p : Place) → PlaceInRange p → ScaledPlaceInRange (times axis.a p.x) (times axis.b p.y)
  place_scaled p h = record { x_range = scaled_small costs.most.0 p.x h.x_range; y_range = scaled_small costs.most.1 p.y h.y_range }

  module _ {r : Rect} (h : Ranged r) {t u v w : ℤ} (et : Scaled (to_z w32 axis.a) (back r.xlo) t) (eu : Scaled (to_z w32 axis.b) (back r.ylo) u)
      (ev : Scaled (to_z w32 axis.a) (back r.xhi) v) (ew : Scaled (to_z w32 axis.b) (back r.yhi) w) where
    pub made_edges : record { xlo = word t; ylo = word u; xhi = word v; yhi = word w } ≡ scaled_rect axis r
    made_edges = λ i. record {
      xlo = scaled_by costs.most.0 r.xlo h.range.low_corner_law.x_range et i;
      ylo = scaled_by costs.most.1 r.ylo h.range.low_corner_law.y_range eu i;
      xhi = scaled_by costs.most.0 r.xhi h.range.high_corner_law.x_range ev i;
      yhi = scaled_by costs.most.1 r.yhi h.range.high_corner_law.y_range ew i;
    }

    pub made_range : EdgesInRange (word t) (word u) (word v) (word w)
    made_range =
        subst (λ (q : Rect). EdgesInRange q.xlo q.ylo q.xhi q.yhi) (sym made_edges)
        (record {
          low = place_scaled (record { x = r.xlo; y = r.ylo }) h.range.low_corner_law;
          high = place_scaled (record { x = r.xhi; y = r.yhi }) h.range.high_corner_law;
          across = scale_le axis.a r.xlo r.xhi h.full.across;
          deep = scale_le axis.b r.ylo r.yhi h.full.deep;
        })
