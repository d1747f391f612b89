-- The ranges of objects in columns, of a rectangle and of its scaled edges (RULES "Deck", "Travel").
use Rattle.std.specs.Prelude.{ℕ, ◌+◌, ◌≤◌, ◌<◌, cond, ◌≡◌, List, ℤ, pos, nat_abs, ◌≤ℤ◌, length, get_or}
use Rattle.std.specs.Int.Signed.{lt_z}
use Rattle.numbers.specs.Integer.{dist}
use Rattle.query.specs.Place.{Rect, NonEmpty}
use Rattle.query.specs.Range.{RectInRange, travel_limit, stops_limit, visits_limit}
use Rattle.columns.specs.Columns.{y_column, visits_column, near_column, x_cost_place, y_cost_place, columns_size}
use Rattle.columns.specs.Ranges.{ScaledPlaceInRange, AxisCostInRange}

-- one row of the columns
pub record ObjectInRange (x y visits near : ℤ) : Type 0 where
  pub place : ScaledPlaceInRange x y
  pub visits_some : pos 0 ≤ℤ visits
  pub visits_range : nat_abs visits ≤ visits_limit
  pub near_some : pos 0 ≤ℤ near
  pub near_range : nat_abs near ≤ travel_limit

-- two axis costs behind the columns
pub record AxisCostsInRange (columns : List ℤ) : Type 0 where
  pub long : length columns ≡ columns_size
  pub x_cost : AxisCostInRange (get_or columns x_cost_place (pos 0))
  pub y_cost : AxisCostInRange (get_or columns y_cost_place (pos 0))

-- and the columns, of which the first n rows count
pub record Priceable (columns : List ℤ) (n : ℕ) : Type 0 where
  pub count : n ≤ stops_limit
  pub row : (i : ℕ) → i < stops_limit
      → ObjectInRange (get_or columns i (pos 0)) (get_or columns (y_column + i) (pos 0)) (get_or columns (visits_column + i) (pos 0))
      (get_or columns (near_column + i) (pos 0))
  pub costs : AxisCostsInRange columns

-- a rectangle in range that has a point
pub record Ranged (rectangle : Rect) : Type 0 where
  pub range : RectInRange rectangle
  pub full : NonEmpty rectangle

-- the scaled edges of a rectangle as the passes take them
pub record EdgesInRange (xlo ylo xhi yhi : ℤ) : Type 0 where
  pub low : ScaledPlaceInRange xlo ylo
  pub high : ScaledPlaceInRange xhi yhi
  pub across : xlo ≤ℤ xhi
  pub deep : ylo ≤ℤ yhi

-- how far a lies above b
unfoldable pub excess_of : ℤ → ℤ → ℕ
unfolding dist
excess_of a b = cond (lt_z b a) (dist a b) 0
