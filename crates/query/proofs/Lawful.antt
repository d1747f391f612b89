-- What the search is proved from: a problem whose lines hold the area's edges, whose bound is one, and whose crossings hold a best place.
-- Any bound with the laws `below` and `part` will do.
use mathlib.Core.Bool.{not}
use mathlib.Core.List.{Memᴰ, Pairwise}
use lib.Dec.{T}
use lib.IntN.{pos}
use lib.Signed.{◌≤ℤ◌, ◌<ℤ◌}
use Rattle.query.specs.Place.{Place, Rect, In, NonEmpty, Axis, coordinate, low_edge, high_edge}
use Rattle.query.specs.Grid.{Grid, lines_along}
use Rattle.query.specs.Problem.{Problem}
use Rattle.query.specs.Order.{better}
use Rattle.query.specs.Search.{priced_at}

-- q is a crossing of lines
abbrev pub OnLines : Grid → Place → Type 0
OnLines G q = (axis : Axis) → Memᴰ (coordinate axis q) (lines_along G axis)

pub record Lawful (P : Problem) : Type 0 where
  pub non_empty : NonEmpty P.area
  pub low_line : (axis : Axis) → Memᴰ (low_edge axis P.area) (lines_along P.rules.grid axis)
  pub high_line : (axis : Axis) → Memᴰ (high_edge axis P.area) (lines_along P.rules.grid axis)
  pub increasing : (axis : Axis) → Pairwise ◌<ℤ◌ (lines_along P.rules.grid axis)
  -- the bound of a cell is at most the cost of each of its points
  pub below : (r : Rect) (p : Place) → In r p → P.rules.bound r ≤ℤ pos (P.rules.price p)
  -- and at most the bound of each of its parts
  pub part : (r q : Rect) → NonEmpty q → In r (record { x = q.xlo; y = q.ylo }) → In r (record { x = q.xhi; y = q.yhi }) →
      P.rules.bound r ≤ℤ P.rules.bound q
  -- for each point of the area there is a crossing in it that is cheaper, or costs the same and is not later
  pub crossing : (p : Place) → In P.area p → (q : Place) × In P.area q × OnLines P.rules.grid q × T
      (not (better (priced_at P.rules p) (priced_at P.rules q)))
