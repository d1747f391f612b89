-- near is the least travel from a stop to a post, and the travel to a rectangle the least travel to its points.
use mathlib.Core.Path.{◌≡◌, refl, sym}
use mathlib.Core.List.Memᴰ
use mathlib.Core.List.{List, [], ◌∷◌, map, Memᴰ}
use Prim.Native.Nat.{◌≤◌}
use native.Mathlib.Omega.{arith}
use lib.Dec.{T, ltb, nltb→le}
use Rattle.numbers.specs.Lists.{non_empty}
use Rattle.numbers.proofs.Members.{least_member, least_le}
use Rattle.numbers.proofs.Orders.{ltb_strict}
use Rattle.query.specs.Place.{Place, Rect}
use Rattle.query.specs.Deck.{AxisCosts, Stop, Deck}
use Rattle.query.specs.Travel.{travel, closest, near}
use Rattle.query.specs.Reach.{closest_point, travel_to}
use Rattle.query.specs.Laws.{NearLaw, TravelToLaw}
use Rattle.query.proofs.Travel.{closest_point_in, travel_to_least}

pub closest_some : (axis : AxisCosts) (p : Place) (posts : List Place) → T (non_empty posts) →
    (post : Place) × Memᴰ post posts × (closest axis p posts ≡ travel axis p post)
unfolding closest
closest_some axis p [] t = absurd t
closest_some axis p (q ∷ qs) t =
    let r = Memᴰ.of_map (travel axis p) (q ∷ qs) (least_member ltb ltb_strict (travel axis p q) (map (travel axis p) qs)) in
    (r.0, r.1, sym r.2)

pub closest_least : (axis : AxisCosts) (p : Place) (posts : List Place) (post : Place) → Memᴰ post posts → closest axis p posts ≤ travel axis p post
unfolding closest
closest_least axis p [] post m = omega arith
closest_least axis p (q ∷ qs) post m = nltb→le _ _ (least_le ltb ltb_strict (travel axis p q) (map (travel axis p) qs) (Memᴰ.map (travel axis p) m))

pub near_law : (deck : Deck) (stop : Stop) → NearLaw deck stop
unfolding near
near_law deck stop = record { some_post = closest_some deck.axis stop.at deck.posts; every_post = closest_least deck.axis stop.at deck.posts }

pub travel_to_law : (deck : Deck) (r : Rect) (stop : Stop) → TravelToLaw deck r stop
unfolding travel_to
travel_to_law deck r stop = record {
  some_point = λ h. (closest_point r stop.at, closest_point_in r stop.at h, refl);
  every_point = travel_to_least deck r stop;
}
