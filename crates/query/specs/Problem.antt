-- What a search sees of a deck: its area, and for each round the lines, the cost of a place and the bound of a cell (RULES "Rounds").
use Rattle.std.specs.Prelude.{ℕ, ℤ, pos}
use Rattle.query.specs.Place.{Place, Rect}
use Rattle.query.specs.Deck.{Deck}
use Rattle.query.specs.Cost.{cost}
use Rattle.query.specs.Bound.{bound}
use Rattle.query.specs.Grid.{Grid, grid}

-- what a round sees: not where the search started
pub record Rules : Type 0 where
  pub grid : Grid
  pub price : Place → ℕ
  pub bound : Rect → ℤ

pub record Problem : Type 0 where
  pub area : Rect
  pub rules : Rules

unfoldable pub problem : Deck → Problem
unfolding grid cost bound
problem deck = record { area = deck.area; rules = record { grid = grid deck; price = cost deck; bound = λ r. pos (bound deck r) } }
