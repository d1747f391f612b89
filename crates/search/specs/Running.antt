-- A search while the code runs it (RULES "Rounds"): what its live cells and its state stand for, and what a round asks.
use Rattle.std.specs.Prelude.{ℕ, ◌≤◌, ◌<◌, ◌≡◌, T}
use mathlib.Core.List.{List, ◌∷◌, map, Memᴰ}
use Rattle.query.specs.Grid.{Grid}
use Rattle.query.specs.Cut.{can_cut}
use Rattle.query.specs.Search.{Search}
use Rattle.query.specs.Range.{cost_limit, rounds_limit}
use Rattle.deck.specs.Values.{rect_of}
use Rattle.reach.specs.Columns.{Ranged}
use Rattle.priced_place.specs.ObjectProblem.{priced_of}
use Rattle.cells.specs.declared.Cell.{Cell}
use Rattle.cells.specs.Held.{query_cell, HeldInOrder}
use Rattle.cells.specs.Live.{Live}
use Rattle.search.specs.declared.run.Running.{Running}

-- the search that live cells and a state hold
unfoldable pub search_of : List Cell → Running → Search
search_of cells state = record { best = priced_of state.best; live = map query_cell cells; cuts = state.cuts }

-- what a round asks of the cell that it takes, and of those that are left
pub record Takeable (G : Grid) (cell : Cell) (live : Live) (state : Running) : Type 0 where
  pub room : 2 ≤ live.free
  pub few : state.cuts < rounds_limit
  pub cost_limit_lem : state.best.cost ≤ cost_limit
  pub ranged : Ranged (rect_of cell.rect)
  pub can_cut_lem : (c : Cell) → Memᴰ c (cell ∷ live.cells) → T (can_cut G (rect_of c.rect))
  pub in_order : HeldInOrder live.cells

-- live cells and a state that hold a search, with so many slots free at least
pub record Holds (search : Search) (lowest : ℕ) (live : Live) (state : Running) : Type 0 where
  pub is : search_of live.cells state ≡ search
  pub low_free : lowest ≤ live.free
