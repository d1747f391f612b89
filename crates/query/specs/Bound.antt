-- The bound of a cell (RULES "Bound").
use Rattle.std.specs.Prelude.{ℕ, ◌*◌, min}
use Rattle.numbers.specs.Lists.{sum_of}
use Rattle.query.specs.Place.{Rect}
use Rattle.query.specs.Deck.{Deck}
use Rattle.query.specs.Travel.{near}
use Rattle.query.specs.Reach.{travel_to}

-- the bound of a rectangle, stop by stop: what all stops would pay if each had one more post, at its closest point of the rectangle
unfoldable pub bound : Deck → Rect → ℕ
unfolding sum_of near travel_to
bound deck r = sum_of (λ stop. stop.visits * min (near deck stop) (travel_to deck r stop)) deck.stops
