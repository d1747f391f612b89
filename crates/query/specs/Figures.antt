-- The figures of a report (RULES "Figures").
use Rattle.std.specs.Prelude.{ℕ, List, [], ◌∷◌, map, ℤ, pos}
use Rattle.std.specs.Int.Signed.{lt_z}
use Rattle.numbers.specs.Lists.{least_by}
use Rattle.query.specs.Place.{Place}
use Rattle.query.specs.Deck.{Deck}
use Rattle.query.specs.Cost
use Rattle.query.specs.Problem.{problem}
use Rattle.query.specs.Order.{Cell}
use Rattle.query.specs.Search.{Search, run}

-- how a search ended
pub data State : Type 0 where
  done stopped : State

-- done: no cell is live any more
abbrev pub state_of : List Cell → State
state_of [] = done
state_of (c ∷ cs) = stopped

-- high: the cost of the best place so far
abbrev pub high : Search → ℕ
high s = s.best.cost

-- low: the smallest among high and the bounds of the live cells
unfoldable pub low : Search → ℤ
unfolding least_by
low s = least_by lt_z (pos (high s)) (map (λ c. c.bound) s.live)

-- what a report says; its rounds are the cuts made
pub record Figures : Type 0 where
  pub state : State
  pub at : Place
  pub high : ℕ
  pub low : ℤ
  pub before : ℕ
  pub rounds : ℕ

unfoldable pub figures_of : ℕ → Search → Figures
unfolding low
figures_of before s = record { state = state_of s.live; at = s.best.at; high = high s; low = low s; before = before; rounds = s.cuts }

-- the figures of a deck's report, where n rounds are allowed
unfoldable pub figures : Deck → ℕ → Figures
unfolding figures_of Cost.before problem run
figures deck n = figures_of (Cost.before deck) (run (problem deck) n)
