-- The ranges of RULES "Deck", of what a record holds.
use Rattle.std.specs.Prelude.{ℕ, ◌≤◌, ◌<◌, length, get_or}
use mathlib.Core.List.{List, map, Memᴰ}
use Rattle.query.specs.Place as Query
use Rattle.query.specs.Deck as QueryDeck
use Rattle.query.specs.Deck.{AxisCosts}
use Rattle.query.specs.Range.{PlaceInRange, StopInRange, axis_cost_limit, visits_limit, travel_limit, posts_limit, stops_limit}
use Rattle.deck.specs.declared.Place.{Place}
use Rattle.deck.specs.declared.Stop.{Stop}
use Rattle.deck.specs.Values.{place_of, stop_of}

-- axis costs
pub record CostsInRange (axis : AxisCosts) : Type 0 where
  pub some : (1 ≤ axis.a) × (1 ≤ axis.b)
  pub most : (axis.a ≤ axis_cost_limit) × (axis.b ≤ axis_cost_limit)

-- posts and stops
pub record PostsInRange (posts : List Place) : Type 0 where
  pub few : length posts ≤ posts_limit
  pub each : (p : Query.Place) → Memᴰ p (map place_of posts) → PlaceInRange p

pub record StopsInRange (stops : List Stop) : Type 0 where
  pub few : length stops ≤ stops_limit
  pub each : (s : QueryDeck.Stop) → Memᴰ s (map stop_of stops) → StopInRange s

-- the places of stops alone, and their visits alone
pub record StopPlacesInRange (stops : List Stop) : Type 0 where
  pub few : length stops ≤ stops_limit
  pub each : (s : QueryDeck.Stop) → Memᴰ s (map stop_of stops) → PlaceInRange s.at

pub record VisitsInRange (stops : List Stop) : Type 0 where
  pub few : length stops ≤ stops_limit
  pub each : (s : QueryDeck.Stop) → Memᴰ s (map stop_of stops) → s.visits ≤ visits_limit

-- the near of n stops
pub record NearsInRange (nears : List ℕ) (n : ℕ) : Type 0 where
  pub count : n ≤ length nears
  pub range : (i : ℕ) → i < n → get_or nears i 0 ≤ travel_limit
