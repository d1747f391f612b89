-- Where the columns of all objects stand in their one array, each of `stops_limit` numbers, and the axis costs behind them. The column of
-- x starts at 0.
use Rattle.std.specs.Prelude.{ℕ, ◌+◌, ◌*◌, ℤ}
use mathlib.Core.List.{List, zip_with}
use Rattle.query.specs.Place.{Place}
use Rattle.query.specs.Range.{stops_limit}

abbrev pub y_column : ℕ
y_column = stops_limit

abbrev pub visits_column : ℕ
visits_column = 2 * stops_limit

abbrev pub near_column : ℕ
near_column = 3 * stops_limit

abbrev pub x_cost_place : ℕ
x_cost_place = 4 * stops_limit

abbrev pub y_cost_place : ℕ
y_cost_place = 4 * stops_limit + 1

-- how many numbers the array has
abbrev pub columns_size : ℕ
columns_size = 4 * stops_limit + 2

-- the places in columns of x and of y
unfoldable pub places : List ℤ → List ℤ → List Place
unfolding zip_with
places xs ys = zip_with (λ x y. record { x = x; y = y }) xs ys
