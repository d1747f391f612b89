-- What is proved of the rules, in one statement: a field for each theorem, with all that it speaks of and all that it supposes. What a
-- theorem says stands in the file of its record. `proofs/QueryTheorems.antt` proves it, as `query_theorems`.
use Rattle.std.specs.Prelude.{ℕ, ◌≡◌, List, ◌∷◌, ℤ}
use Rattle.numbers.specs.NumberRows.{NumberRows}
use Rattle.query.specs.Place.{Place, Rect, In, NonEmpty, Axis}
use Rattle.query.specs.Deck.{Stop, Deck}
use Rattle.query.specs.Grid.{Grid}
use Rattle.query.specs.Problem.{Problem}
use Rattle.query.specs.Order.{Cell}
use Rattle.query.specs.Search.{run}
use Rattle.query.specs.Figures.{figures}
use Rattle.query.specs.Laws.{HalfLaw, NearLaw, TravelToLaw, BoundLaw, LinesLaw, GapsLaw, AsGood, CutLaw, RoundLaw, TakenLaw}
use Rattle.query.specs.Laws.{PartitionLaw, EstimateLaw, SpaceLaw}
use Rattle.query.specs.Promise3.{Promise3}
use Rattle.query.specs.ExhaustiveLaw.{ExhaustiveLaw}
use Rattle.query.specs.Range.{InRange, FigureLimits, RunInRange}
use Rattle.query.specs.Marked.{Marked}
use Rattle.query.specs.Rows.{Rows}

pub record QueryTheorems : Type 0 where
  -- figures of decks: the worked cases, and further rows
  pub marked : Marked
  pub rows : Rows
  -- of whole numbers and lists
  pub number_rows : NumberRows
  -- RULES "Promise 3", of every deck whose area has a point and every number of rounds
  pub promise_3 : (deck : Deck) → NonEmpty deck.area → (n : ℕ) → Promise3 deck n (figures deck n)
  -- RULES "Exhaustive search", of every such deck
  pub exhaustive : (deck : Deck) → NonEmpty deck.area → ExhaustiveLaw deck
  -- the single rules. A grid is any lines, and a problem any area with any lines, prices and bounds
  pub half : (z : ℤ) → HalfLaw z
  pub near : (deck : Deck) (stop : Stop) → NearLaw deck stop
  pub travel_to_law : (deck : Deck) (r : Rect) (stop : Stop) → TravelToLaw deck r stop
  pub bound : (deck : Deck) (r : Rect) → BoundLaw deck r
  pub lines : (deck : Deck) (axis : Axis) → LinesLaw deck axis
  pub gaps : (deck : Deck) (axis : Axis) → GapsLaw deck axis
  -- for each point of the area some crossing is as good
  pub crossing : (deck : Deck) (p : Place) → In deck.area p → (q : Place) × AsGood deck p q
  pub cut : (G : Grid) (r : Rect) → CutLaw G r
  -- the rounds. The cell that a round takes is the first of the live ones
  pub round : (P : Problem) (n : ℕ) → RoundLaw P n
  pub taken : (P : Problem) (n : ℕ) (c : Cell) (others : List Cell) → (run P n).live ≡ c ∷ others → TakenLaw P n c
  pub partition : (P : Problem) (n : ℕ) → PartitionLaw P n
  -- RULES "Change 3", "Cell space", of every deck
  pub estimate : (deck : Deck) (rounds : ℕ) → EstimateLaw deck rounds
  pub space : (deck : Deck) (n : ℕ) → SpaceLaw deck n
  -- figures of decks whose values are in range
  pub figure_limits : (deck : Deck) → InRange deck → FigureLimits deck
  pub run_in_range : (deck : Deck) → InRange deck → NonEmpty deck.area → (n : ℕ) → RunInRange deck n
