-- The figures that a record keeps with its stops (RULES "Change 5"), as the code finds them.
use Rattle.std.specs.Prelude.{ℕ, ◌*◌, ◌≡◌, length}
use mathlib.Core.List.{List, map, zip_with}
use Rattle.numbers.specs.Lists.{sum_of}
use Rattle.numbers.specs.Padded.{padded}
use Rattle.query.specs.Place.{Place}
use Rattle.query.specs.Deck.{AxisCosts, Stop}
use Rattle.query.specs.Travel.{closest}
use Rattle.query.specs.Range.{stops_limit}
use Rattle.deck.specs.Ranges.{NearsInRange}

-- the near of stops by these posts, with 0 behind the last, each in range
pub record Nears (axis : AxisCosts) (posts : List Place) (stops : List Stop) (nears : List ℕ) : Type 0 where
  pub are : nears ≡ padded stops_limit 0 (map (λ s. closest axis s.at posts) stops)
  pub range : NearsInRange nears (length stops)

-- the sum of visits × near
unfoldable pub paid : List Stop → List ℕ → ℕ
unfolding sum_of zip_with
paid stops nears = sum_of (λ (m : ℕ). m) (zip_with (λ s near. s.visits * near) stops nears)
