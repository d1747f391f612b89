-- The travel of objects to a rectangle and their flags, one for each, and as those of the stops of the deck whose objects they are.
use mathlib.Core.Path.{◌≡◌, refl, ap, ◌∙◌}
use mathlib.Core.Bool.{Bool, false}
use mathlib.Core.List.{map, map-map}
use Prim.Native.Nat.{ℕ}
use lib.Dec.{ltb}
use Rattle.numbers.specs.Padded.{padded}
use Rattle.numbers.proofs.Joined.{map_each}
use Rattle.numbers.proofs.Scaling.{clamp_scale}
use Rattle.query.specs.Place.{Rect}
use Rattle.query.specs.Deck.{Stop, Deck, plain}
use Rattle.query.specs.Travel.{travel, near}
use Rattle.query.specs.Reach.{closest_point, travel_to, reach}
use Rattle.query.specs.Range.{stops_limit}
use Rattle.columns.specs.Objects.{scaled_place, scaled_rect, Object, objects_of, Pricing, pricing_of}
use Rattle.columns.proofs.TravelLaws.{travel_scaled}
use Rattle.reach.specs.ObjectReach.{travel_to_of, reaches, flags_of}

-- an object's travel to a scaled rectangle, and whether it reaches it
abbrev pub travel_to_scaled : Rect → Object → ℕ
travel_to_scaled r s = travel plain s.at (closest_point r s.at)

abbrev pub reaches_to : Rect → Object → Bool
reaches_to r s = ltb (travel_to_scaled r s) s.near

module _ (P : Pricing) where
  pub flags_of_map : (r : Rect) → flags_of P r ≡ padded stops_limit false (map (reaches_to (scaled_rect P.axis r)) P.objects)
  unfolding flags_of reaches travel_to_of
  flags_of_map r = refl

-- ---- the deck's stops
module _ (deck : Deck) where
  abbrev pub object_of : Stop → Object
  object_of stop = record { at = scaled_place deck.axis stop.at; visits = stop.visits; near = near deck stop }

  pub objects_of_map : objects_of deck ≡ map object_of deck.stops
  unfolding objects_of
  objects_of_map = refl

  pub travel_to_law : (r : Rect) (stop : Stop) → travel_to_scaled (scaled_rect deck.axis r) (object_of stop) ≡ travel_to deck r stop
  unfolding travel_to closest_point
  travel_to_law r stop = rw (
    clamp_scale deck.axis.a r.xlo r.xhi stop.at.x,
    clamp_scale deck.axis.b r.ylo r.yhi stop.at.y,
    travel_scaled deck.axis stop.at (closest_point r stop.at),
  )

  pub reach_law : (r : Rect) (stop : Stop) → reaches_to (scaled_rect deck.axis r) (object_of stop) ≡ reach deck r stop
  unfolding reach
  reach_law r stop = ap (λ (n : ℕ). ltb n (near deck stop)) (travel_to_law r stop)

  pub flags_law : (r : Rect) → flags_of (pricing_of deck) r ≡ padded stops_limit false (map (reach deck r) deck.stops)
  flags_law r = flags_of_map (pricing_of deck) r
      ∙ rw objects_of_map (rw map-map (ap (padded stops_limit false) (map_each _ _ deck.stops (λ stop m. reach_law r stop))))
