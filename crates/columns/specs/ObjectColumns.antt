-- What pricing needs as the code holds it, in one array: four columns of objects, x, y, visits and near, of which the first so many rows
-- count, and the two axis costs behind them.
use Rattle.std.specs.Prelude.{ℕ, zero, suc, ◌+◌, List, [], ◌∷◌, ◌++◌, map, ℤ, pos, nat_abs, get_or}
use Rattle.numbers.specs.Padded.{padded}
use Rattle.query.specs.Deck.{AxisCosts}
use Rattle.query.specs.Range.{stops_limit}
use Rattle.columns.specs.Objects.{Object, Pricing}
use Rattle.columns.specs.Columns.{y_column, visits_column, near_column, x_cost_place, y_cost_place}

-- the columns of some objects: each with 0 behind its last number, one after another
unfoldable pub column : (Object → ℤ) → List Object → List ℤ
unfolding padded
column number objects = padded stops_limit (pos 0) (map number objects)

unfoldable pub object_columns : List Object → List ℤ
unfolding column
object_columns objects = column (λ s. s.at.x) objects ++ column (λ s. s.at.y) objects ++ column (λ s. pos s.visits) objects
    ++ column (λ s. pos s.near) objects

-- and the axis costs behind them
unfoldable pub columns_of : Pricing → List ℤ
unfolding object_columns
columns_of P = object_columns P.objects ++ (pos P.axis.a ∷ pos P.axis.b ∷ [])

-- the object in row i, and those in the first n rows
abbrev pub object_at : List ℤ → ℕ → Object
object_at columns i = record {
  at = record { x = get_or columns i (pos 0); y = get_or columns (y_column + i) (pos 0) };
  visits = nat_abs (get_or columns (visits_column + i) (pos 0));
  near = nat_abs (get_or columns (near_column + i) (pos 0));
}

unfoldable pub objects_in : List ℤ → ℕ → List Object
objects_in columns zero = []
objects_in columns (suc n) = objects_in columns n ++ object_at columns n ∷ []

-- the axis costs
abbrev pub axis_in : List ℤ → AxisCosts
axis_in columns = record { a = nat_abs (get_or columns x_cost_place (pos 0)); b = nat_abs (get_or columns y_cost_place (pos 0)) }

-- what pricing needs, with the objects of the first n rows
abbrev pub pricing_in : List ℤ → ℕ → Pricing
pricing_in columns n = record { axis = axis_in columns; objects = objects_in columns n }
