-- How far the travels of objects are below their near, row by row.
use Rattle.std.specs.Prelude.{ℕ, ◌-◌, ◌≡◌, ◌<◌, List, ℤ, pos, get_or}
use Rattle.query.specs.Place.{Place, Rect}
use Rattle.query.specs.Deck.{plain}
use Rattle.query.specs.Travel.{travel}
use Rattle.query.specs.Reach.{closest_point}
use Rattle.columns.specs.declared.ScaledPlace.{ScaledPlace}
use Rattle.columns.specs.Objects.{Object}
use Rattle.columns.specs.ObjectColumns.{object_at}
use Rattle.pricing.specs.declared.Spared.{Spared}

abbrev pub scaled_place_of : ScaledPlace → Place
scaled_place_of p = record { x = p.x; y = p.y }

-- a column that has, for each of the first n rows, how far a travel is below near
pub record SparedColumn (travelled : Object → ℕ) (columns : List ℤ) (n : ℕ) (column : List ℤ) : Type 0 where
  pub each : (i : ℕ) → i < n → get_or column i (pos 0) ≡ pos ((object_at columns i).near - travelled (object_at columns i))

-- four columns: for the travels to two scaled places, and to two scaled rectangles
pub record SparedBy (columns : List ℤ) (n : ℕ) (low high : Place) (first second : Rect) (spared : Spared) : Type 0 where
  pub at_low : SparedColumn (λ s. travel plain s.at low) columns n spared.low
  pub at_high : SparedColumn (λ s. travel plain s.at high) columns n spared.high
  pub in_first : SparedColumn (λ s. travel plain s.at (closest_point first s.at)) columns n spared.first
  pub in_second : SparedColumn (λ s. travel plain s.at (closest_point second s.at)) columns n spared.second
