-- The ranges of the numbers that objects are made of: those of RULES "Deck", scaled by the axis costs.
use Rattle.std.specs.Prelude.{ℕ, ◌+◌, ◌*◌, ◌≤◌, ◌<◌, ◌≡◌, List, ℤ, pos, nat_abs, length, drop, get_or, ◌≤ℤ◌}
use Rattle.numbers.specs.Integer.{times}
use Rattle.query.specs.Range.{coordinate_limit, axis_cost_limit, stops_limit}
use Rattle.columns.specs.Columns.{y_column, near_column, columns_size}

-- the most of a coordinate that is multiplied by an axis cost, and a place whose coordinates are so
abbrev pub scaled_limit : ℕ
scaled_limit = axis_cost_limit * coordinate_limit

pub record ScaledPlaceInRange (x y : ℤ) : Type 0 where
  pub x_range : nat_abs x ≤ scaled_limit
  pub y_range : nat_abs y ≤ scaled_limit

-- an axis cost
pub record AxisCostInRange (cost : ℤ) : Type 0 where
  pub some : pos 1 ≤ℤ cost
  pub most : nat_abs cost ≤ axis_cost_limit

-- a coordinate multiplied by an axis cost
pub record Scaled (cost coordinate product : ℤ) : Type 0 where
  pub is : product ≡ times (nat_abs cost) coordinate
  pub small : nat_abs product ≤ scaled_limit

-- a column of scaled coordinates, of which the first n count
pub record CoordinatesInRange (xs : List ℤ) (n : ℕ) : Type 0 where
  pub count : n ≤ length xs
  pub range : (i : ℕ) → i < n → nat_abs (get_or xs i (pos 0)) ≤ scaled_limit

-- all columns, with room for n rows
pub record ColumnsFit (columns : List ℤ) (n : ℕ) : Type 0 where
  pub few : n ≤ stops_limit
  pub long : length columns ≡ columns_size

-- the first n rows have their scaled places in the first two columns
pub record RowsInRange (columns : List ℤ) (n : ℕ) : Type 0 where
  pub fit : ColumnsFit columns n
  pub x : CoordinatesInRange columns n
  pub y : CoordinatesInRange (drop y_column columns) n

-- of all columns, that of near has numbers from 0 up in its first n rows
pub record NearColumn (columns : List ℤ) (n : ℕ) : Type 0 where
  pub long : length columns ≡ columns_size
  pub some : (i : ℕ) → i < n → pos 0 ≤ℤ get_or columns (near_column + i) (pos 0)
