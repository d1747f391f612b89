-- A deck (RULES "Deck"): what the paper's query is asked of.
use Rattle.std.specs.Prelude.{ℕ, List}
use Rattle.query.specs.Place.{Place, Rect}

-- a stop with its visits: an object o of the paper's O with its weight
pub record Stop : Type 0 where
  pub at : Place
  pub visits : ℕ

-- what a tenth of a millimetre of travel costs in x and in y (RULES "Change 2")
pub record AxisCosts : Type 0 where
  pub a : ℕ
  pub b : ℕ

-- the axis costs of a job that has no line for them
abbrev pub plain : AxisCosts
plain = record { a = 1; b = 1 }

-- the posts are the paper's S, the stops its O, the area its query region Q
pub record Deck : Type 0 where
  pub axis : AxisCosts
  pub area : Rect
  pub posts : List Place
  pub stops : List Stop
