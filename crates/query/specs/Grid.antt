-- The lines of both axes (RULES "Lines"), at which cells are cut.
use Rattle.std.specs.Prelude.{List, ℤ}
use Rattle.query.specs.Place.{Axis, x_axis, y_axis}
use Rattle.query.specs.Deck.{Deck}
use Rattle.query.specs.Lines.{lines}

-- the x of each vertical line, and the y of each horizontal one
pub record Grid : Type 0 where
  pub vertical : List ℤ
  pub horizontal : List ℤ

-- the lines that part a side along an axis: the vertical ones part the x side
abbrev pub lines_along : Grid → Axis → List ℤ
lines_along G x_axis = G.vertical
lines_along G y_axis = G.horizontal

-- the lines of a deck
unfoldable pub grid : Deck → Grid
unfolding lines
grid deck = record { vertical = lines deck x_axis; horizontal = lines deck y_axis }
