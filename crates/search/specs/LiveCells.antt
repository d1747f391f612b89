-- One more among the live cells of a search (RULES "Live cells").
use Rattle.std.specs.Prelude.{◌≤◌, cond}
use Rattle.query.specs.Grid.{Grid}
use Rattle.query.specs.Order.{Priced}
use Rattle.query.specs.Search.{is_live}
use Rattle.query.specs.Range.{RectInRange, cost_limit}
use Rattle.deck.specs.Values.{rect_of}
use Rattle.priced_place.specs.declared.PricedPlace.{PricedPlace}
use Rattle.cells.specs.declared.Cell.{Cell}
use Rattle.cells.specs.Held.{query_cell}
use Rattle.cells.specs.Live.{Live, with_cell}

-- a cell more, if it is live
unfoldable pub with_live : Grid → Priced → Cell → Live → Live
unfolding is_live with_cell
with_live G best cell live = cond (is_live G best (query_cell cell)) (with_cell cell live) live

-- where a cell more may go: a slot is free, and the cell and the best place are in range
pub record Addable (live : Live) (cell : Cell) (best : PricedPlace) : Type 0 where
  pub room : 1 ≤ live.free
  pub ranged : RectInRange (rect_of cell.rect)
  pub cost_limit_lem : best.cost ≤ cost_limit
