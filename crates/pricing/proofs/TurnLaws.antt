-- One turn of each pass of pricing: what the code computes of a row is the object's part of the figure; and the most that the figures of
-- columns in range can be.
use mathlib.Core.Path.{◌≡◌, refl, ap, ◌∙◌}
use mathlib.Core.List.{List}
use Prim.Native.Nat.{ℕ, ◌+◌, ◌*◌, ◌≤◌, ◌<◌, min}
use native.Mathlib.Nat.{mul-le-mul}
use native.Mathlib.Omega.{arith}
use lib.IntN.{ℤ, pos, nat_abs}
use lib.ListN.{get_or}
use lib.Signed.{◌≤ℤ◌}
use Rattle.numbers.proofs.Integer.{order}
use Rattle.numbers.proofs.Distance.{dist_most}
use Rattle.query.specs.Place.{Place}
use Rattle.query.specs.Deck.{plain}
use Rattle.query.specs.Travel.{travel}
use Rattle.query.specs.Range.{cost_limit, visits_limit, travel_limit}
use Rattle.columns.specs.Columns.{y_column, visits_column, near_column}
use Rattle.columns.specs.Objects.{Object, scaled_place}
use Rattle.columns.specs.Ranges.{ScaledPlaceInRange, scaled_limit}
use Rattle.columns.specs.declared.ScaledPlace.{ScaledPlace}
use Rattle.columns.proofs.TravelLaws.{far, travel_plain}
use Rattle.columns.specs.ObjectColumns.{object_at, axis_in, pricing_in}
use Rattle.reach.specs.Columns.{ObjectInRange, Priceable}
use Rattle.reach.specs.Held.{object_of_row, edges_rect}
use Rattle.reach.specs.declared.objects.Row.{Row}
use Rattle.reach.specs.declared.rectangle.Edges.{Edges}
use Rattle.reach.proofs.ExcessLaws.{away, away_most}
use Rattle.reach.proofs.NarrowLaws.{word, number_word}
use Rattle.reach.proofs.ReachLaws.{travel_to_scaled}
use Rattle.reach.proofs.RowLaws.{x_word, y_word, travel_away}
use Rattle.pricing.specs.ObjectFigures.{cost_of}
use Rattle.pricing.proofs.ObjectLaws.{paid_along, paid_by, cost_of_sum}
use Rattle.pricing.proofs.ColumnLaws.{Passed, passed_more, sum_most}

-- the most that an object's part of a figure can be
abbrev pub paid_limit : ℕ
paid_limit = visits_limit * travel_limit

module _ {x y visits near : ℤ} (row : ObjectInRange x y visits near) where
  abbrev s : Object
  s = record { at = record { x = x; y = y }; visits = nat_abs visits; near = nat_abs near }

  times : (m : ℕ) → m ≤ travel_limit → nat_abs visits * m ≤ paid_limit
  times m k = omega (arith, mul-le-mul row.visits_range k)

  pub paid_most : (travelled : Object → ℕ) → paid_along travelled s ≤ paid_limit
  paid_most travelled = times _ (least _ _ row.near_range)
    where
      least : (m t : ℕ) → m ≤ travel_limit → min m t ≤ travel_limit
      least m t k = omega arith

-- ---- the travel between two scaled places
far_most : (ux uy vx vy : ℤ) → ScaledPlaceInRange ux uy → ScaledPlaceInRange vx vy → far ux uy vx vy ≤ travel_limit
far_most ux uy vx vy u v = omega (arith, dist_most scaled_limit ux vx u.x_range v.x_range, dist_most scaled_limit uy vy u.y_range v.y_range)

-- ---- a travel t that was found of a row
pub record Travelled (travelled : Object → ℕ) (row : Row) (t : ℤ) : Type 0 where
  is : t ≡ pos (travelled (object_of_row row))
  most : travelled (object_of_row row) ≤ travel_limit

module _ (row : Row) {t : ℤ} where
  pub to_place : (p : ScaledPlace) → t ≡ pos (far (word row.x) (word row.y) p.x p.y)
      → Travelled (λ s. travel plain s.at (record { x = p.x; y = p.y })) row t
  to_place p e =
      let at = row.in_range.place in record {
        is = e ∙ rw (x_word row, y_word row, travel_plain) refl;
        most = rw travel_plain (far_most row.x row.y p.x p.y at p.in_range);
      }

  pub to_rect : (r : Edges) → t ≡ pos (away (word row.x) (word row.y) r.xlo r.ylo r.xhi r.yhi) → Travelled (travel_to_scaled (edges_rect r)) row t
  to_rect r e = record {
    is = e ∙ rw (x_word row, y_word row, travel_away) refl;
    most = rw travel_away (away_most row.x row.y r.xlo r.ylo r.xhi r.yhi row.in_range.place r.in_range);
  }

module _ {travelled : Object → ℕ} {row : Row} {t : ℤ} (found : Travelled travelled row t) where
  pub found_word : word t ≡ pos (travelled (object_of_row row))
  found_word = ap word found.is ∙ number_word (pos (travelled (object_of_row row))) found.most

  pub found_fits : (pos 0 ≤ℤ word t) × (nat_abs (word t) ≤ travel_limit)
  found_fits = rw found_word (omega (arith, order), found.most)

  -- and the pass, with one more row
  pub paid_more : {columns : List ℤ} {sum i : ℕ} → object_of_row row ≡ object_at columns i → (v : ℕ) →
      Passed (paid_along travelled) paid_limit columns sum i → v ≡ nat_abs row.visits * min (nat_abs row.near) (nat_abs (word t)) →
      Passed (paid_along travelled) paid_limit columns (sum + v) (i + 1)
  paid_more {columns} at v passed e =
      let own : v ≡ paid_along travelled (object_of_row row) = e ∙ rw found_word refl in
      passed_more _ _ columns v passed (own ∙ ap (paid_along travelled) at) (rw own (paid_most row.in_range travelled))

-- ---- all rows
module _ {columns : List ℤ} {n : ℕ} (priceable : Priceable columns n) where
  row_at : {i : ℕ} → i < n
      → ObjectInRange (get_or columns i (pos 0)) (get_or columns (y_column + i) (pos 0)) (get_or columns (visits_column + i) (pos 0))
      (get_or columns (near_column + i) (pos 0))
  row_at {i} h = priceable.row i (omega (arith, priceable.count))

  pub cost_most : (p : Place) → cost_of (pricing_in columns n) p ≤ cost_limit
  cost_most p =
      let q = scaled_place (axis_in columns) p in
      rw cost_of_sum (omega (arith, priceable.count, sum_most (paid_by q) paid_limit columns n (λ i h. paid_most (row_at h) (λ s. travel plain s.at q))))
