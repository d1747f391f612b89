-- What a report is worth (RULES "Promise 3"): a field for each clause, of the figures f of a deck's report where n rounds are allowed.
-- QueryTheorems.antt has it of `figures deck n`, for every n and every deck whose area has a point.
use Rattle.std.specs.Prelude.{ℕ, suc, ◌≤◌, ◌<◌, ◌≡◌, ◌↔◌, ◌≢◌, [], T, pos, length, ◌≤ℤ◌, ◌<ℤ◌}
use Rattle.numbers.specs.Lists.{non_empty}
use Rattle.query.specs.Place.{Place, In}
use Rattle.query.specs.Deck.{Deck}
use Rattle.query.specs.Cost.{cost}
use Rattle.query.specs.Estimate.{cut_limit}
use Rattle.query.specs.Problem.{problem}
use Rattle.query.specs.Search.{run}
use Rattle.query.specs.Figures.{Figures, figures, done, stopped}
use Rattle.query.specs.History.{cuts_made}

-- the place `best` beats p: p costs more, or as much and lies further right, or in the same column further back
pub data Beaten (deck : Deck) (best p : Place) : Type 0 where
  costs_more : cost deck best < cost deck p → Beaten deck best p
  further_right : cost deck p ≡ cost deck best → best.x <ℤ p.x → Beaten deck best p
  further_back : cost deck p ≡ cost deck best → p.x ≡ best.x → best.y <ℤ p.y → Beaten deck best p

pub record Promise3 (deck : Deck) (n : ℕ) (f : Figures) : Type 0 where
  -- the place is a whole point of the area
  pub in_area : In deck.area f.at
  -- its cost is the report's high
  pub costs_high : cost deck f.at ≡ f.high
  -- no whole point of the area costs less than low
  pub low_below_all : (p : Place) → In deck.area p → f.low ≤ℤ pos (cost deck p)
  -- with one round more allowed, low does not fall
  pub low_rises : f.low ≤ℤ (figures deck (suc n)).low
  -- and high does not rise
  pub high_falls : (figures deck (suc n)).high ≤ f.high
  -- the place of a done report beats each other whole point of the area
  pub done_best : f.state ≡ done → (p : Place) → In deck.area p → p ≢ f.at → Beaten deck f.at p
  -- the report is done exactly if no cell is live
  pub done_exactly : (f.state ≡ done) ↔ ((run (problem deck) n).live ≡ [])
  -- and stopped exactly if all n rounds were made and a cell is still live
  pub stopped_exactly : (f.state ≡ stopped) ↔ ((f.rounds ≡ n) × T (non_empty (run (problem deck) n).live))
  -- its rounds count the cuts made
  pub rounds_are_cuts : f.rounds ≡ length (cuts_made (problem deck) n)
  -- of which there are no more than the cut limit, whatever n is
  pub cut_limit_law : f.rounds ≤ cut_limit deck
