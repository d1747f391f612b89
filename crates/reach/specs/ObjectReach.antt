-- The travel of objects, at scaled places, to a rectangle, and which of them are within reach of it (RULES "Travel", "Reach").
use Rattle.std.specs.Prelude.{ℕ, Bool, false, List, map, ltb}
use Rattle.numbers.specs.Padded.{padded}
use Rattle.query.specs.Place.{Rect}
use Rattle.query.specs.Deck.{plain}
use Rattle.query.specs.Travel.{travel}
use Rattle.query.specs.Reach.{closest_point}
use Rattle.query.specs.Range.{stops_limit}
use Rattle.columns.specs.Objects.{scaled_rect, Object, Pricing}

-- an object's travel to a rectangle
unfoldable pub travel_to_of : Pricing → Rect → Object → ℕ
unfolding travel closest_point
travel_to_of P r s = travel plain s.at (closest_point (scaled_rect P.axis r) s.at)

-- within reach; the paper's membership in VCU(R)
unfoldable pub reaches : Pricing → Rect → Object → Bool
unfolding travel_to_of
reaches P r s = ltb (travel_to_of P r s) s.near

-- for each object whether it is within reach, and false behind the last
unfoldable pub flags_of : Pricing → Rect → List Bool
unfolding reaches padded
flags_of P r = padded stops_limit false (map (reaches P r) P.objects)
