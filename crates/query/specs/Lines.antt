-- Lines and gaps (RULES "Lines").
use Rattle.std.specs.Prelude.{ℕ, ◌-◌, max, ℤ, length}
use mathlib.Core.List.{List, [], map, foldr}
use Rattle.numbers.specs.Integer.{between}
use Rattle.numbers.specs.Lists.{keep, insert_once}
use Rattle.query.specs.Place.{Axis, coordinate, low_edge, high_edge}
use Rattle.query.specs.Deck.{Deck}
use Rattle.query.specs.Reach.{reach}

-- the coordinates, along an axis, of the stops within reach of the area that lie in the area's range
unfoldable pub stop_coordinates : Deck → Axis → List ℤ
unfolding between keep reach
stop_coordinates deck axis = keep (between (low_edge axis deck.area) (high_edge axis deck.area))
    (map (λ stop. coordinate axis stop.at) (keep (reach deck deck.area) deck.stops))

-- lines stand at the area's edges and at these coordinates, each once and in increasing order: for x the vertical ones, for y the
-- horizontal ones. Where they cross are the paper's candidate locations
unfoldable pub lines : Deck → Axis → List ℤ
unfolding stop_coordinates insert_once
lines deck axis =
    insert_once (low_edge axis deck.area) (insert_once (high_edge axis deck.area) (foldr insert_once [] (stop_coordinates deck axis)))

-- how many gaps the lines leave, for x gaps across and for y gaps deep: a single line leaves one too
unfoldable pub gaps : Deck → Axis → ℕ
unfolding lines
gaps deck axis = max 1 (length (lines deck axis) - 1)
