-- What a search answers at its end, and the cell space that it leaves (RULES "Figures", "Cell space").
use Rattle.std.specs.Prelude.{ℕ, ◌≤◌, ◌≡◌, Bool, true, false, List, [], ◌∷◌, ℤ, pos}
use Rattle.numbers.specs.Padded.{padded}
use Rattle.query.specs.Problem.{Problem}
use Rattle.query.specs.Order as Query
use Rattle.query.specs.Search.{Search, run}
use Rattle.query.specs.Figures as Figures
use Rattle.query.specs.Space.{all_numbers}
use Rattle.query.specs.Range.{cost_limit}
use Rattle.cells.specs.Held.{HeldInOrder}
use Rattle.cells.specs.Live.{Live}
use Rattle.priced_place.specs.ObjectProblem.{priced_place_at}
use Rattle.search.specs.declared.run.Running.{Running}
use Rattle.search.specs.declared.run.Found.{Found}

-- live cells in order, and a best cost in range
pub record Answerable (live : Live) (state : Running) : Type 0 where
  pub cost_limit_lem : state.best.cost ≤ cost_limit
  pub in_order : HeldInOrder live.cells

abbrev pub is_done : List Query.Cell → Bool
is_done [] = true
is_done (c ∷ cs) = false

unfoldable pub found_of : Search → Found
unfolding Figures.low
found_of s = record {
  done = is_done s.live;
  best = priced_place_at s.best.at.x s.best.at.y (Figures.high s);
  low = Figures.low s;
  cuts = s.cuts;
}

-- the answer, and so many numbers that were lent, which hold the cells that are then live, with 0 behind them
pub record Searched (Q : Problem) (rounds lent : ℕ) (numbers : List ℤ) (answer : Found) : Type 0 where
  pub found : answer ≡ found_of (run Q rounds)
  pub cells : numbers ≡ padded lent (pos 0) (all_numbers (run Q rounds).live)
