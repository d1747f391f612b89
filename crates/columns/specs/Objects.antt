-- Objects: stops with their near, at scaled places; those of a deck, and those of what a record holds (RULES "Travel", "Near").
use Rattle.std.specs.Prelude.{ℕ}
use mathlib.Core.List.{List, map, zip_with}
use Rattle.numbers.specs.Integer.{times}
use Rattle.query.specs.Place.{Place, Rect}
use Rattle.query.specs.Deck.{AxisCosts, Stop, Deck}
use Rattle.query.specs.Travel.{near}

-- a place and a rectangle with their coordinates multiplied by the axis costs. Travel is the plain travel between scaled places
abbrev pub scaled_place : AxisCosts → Place → Place
scaled_place c p = record { x = times c.a p.x; y = times c.b p.y }

abbrev pub scaled_rect : AxisCosts → Rect → Rect
scaled_rect c r = record {
  xlo = times c.a r.xlo;
  ylo = times c.b r.ylo;
  xhi = times c.a r.xhi;
  yhi = times c.b r.yhi;
}

-- an object of the paper's O: a stop, with the paper's weight o.w (`visits`) and dNN(o, S) (`near`). The paper's sites S are the posts
pub record Object : Type 0 where
  pub at : Place
  pub visits : ℕ
  pub near : ℕ

unfoldable pub objects_of : Deck → List Object
unfolding near
objects_of deck =
    map (λ stop. record { at = scaled_place deck.axis stop.at; visits = stop.visits; near = near deck stop }) deck.stops

-- all that pricing needs of a deck besides the place or rectangle priced: its axis costs, and its objects at their scaled places
pub record Pricing : Type 0 where
  pub axis : AxisCosts
  pub objects : List Object

abbrev pub pricing_of : Deck → Pricing
pricing_of deck = record { axis = deck.axis; objects = objects_of deck }

-- ---- of what a record holds
-- the objects of stops, each with the near that is kept with it
unfoldable pub stored_objects : AxisCosts → List Stop → List ℕ → List Object
unfolding zip_with
stored_objects axis stops nears =
    zip_with (λ stop near. record { at = scaled_place axis stop.at; visits = stop.visits; near = near }) stops nears

-- what pricing needs of them
abbrev pub stored_pricing : AxisCosts → List Stop → List ℕ → Pricing
stored_pricing axis stops nears = record { axis = axis; objects = stored_objects axis stops nears }
