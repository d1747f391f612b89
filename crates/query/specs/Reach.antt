-- Within reach of a rectangle (RULES "Travel", "Reach").
use Rattle.std.specs.Prelude.{ℕ, Bool, ltb}
use Rattle.numbers.specs.Integer.{clamp}
use Rattle.query.specs.Place.{Place, Rect}
use Rattle.query.specs.Deck.{Stop, Deck}
use Rattle.query.specs.Travel.{travel, near}

-- the point of a rectangle that is closest to a place
unfoldable pub closest_point : Rect → Place → Place
unfolding clamp
closest_point r p = record { x = clamp r.xlo r.xhi p.x; y = clamp r.ylo r.yhi p.y }

-- a stop's travel to a rectangle
unfoldable pub travel_to : Deck → Rect → Stop → ℕ
unfolding travel closest_point
travel_to deck r stop = travel deck.axis stop.at (closest_point r stop.at)

-- within reach of a rectangle: membership in the paper's VCU(R)
unfoldable pub reach : Deck → Rect → Stop → Bool
unfolding travel_to near
reach deck r stop = ltb (travel_to deck r stop) (near deck stop)
