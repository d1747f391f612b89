-- What the exhaustive search gives (RULES "Exhaustive search"): the best point of the whole area, which a done report has too.
use Rattle.std.specs.Prelude.{ℕ, ◌≡◌, ◌≢◌}
use Rattle.query.specs.Place.{Place, In}
use Rattle.query.specs.Deck.{Deck}
use Rattle.query.specs.Cost.{cost}
use Rattle.query.specs.Problem.{problem}
use Rattle.query.specs.Figures.{figures, done}
use Rattle.query.specs.Exhaustive.{exhaustive}
use Rattle.query.specs.Promise3.{Beaten}

pub record ExhaustiveLaw (deck : Deck) : Type 0 where
  pub in_area : In deck.area (exhaustive (problem deck)).at
  pub costs : cost deck (exhaustive (problem deck)).at ≡ (exhaustive (problem deck)).cost
  -- it beats each other point of the area
  pub best : (p : Place) → In deck.area p → p ≢ (exhaustive (problem deck)).at → Beaten deck (exhaustive (problem deck)).at p
  -- every done report of the deck has its place and its cost
  pub done_place : (n : ℕ) → (figures deck n).state ≡ done → (figures deck n).at ≡ (exhaustive (problem deck)).at
  pub done_cost : (n : ℕ) → (figures deck n).state ≡ done → (figures deck n).high ≡ (exhaustive (problem deck)).cost
