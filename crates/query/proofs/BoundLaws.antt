-- What the bound of a rectangle is held to: each comparison of bounds and costs goes stop by stop.
use mathlib.Core.Path.{◌≡◌, refl, sym, subst}
use mathlib.Core.List.{List, [], ◌∷◌}
use Prim.Native.Nat.{ℕ, ◌+◌, ◌*◌, ◌≤◌, min}
use native.Mathlib.Nat.{mul-le-mul_left}
use native.Mathlib.Omega.{arith}
use lib.IntN.{ℤ}
use lib.Signed.{◌≤ℤ◌}
use Rattle.numbers.specs.Lists.{sum_of}
use Rattle.numbers.proofs.Integer.{order}
use Rattle.numbers.proofs.Sums.{sum_of_le}
use Rattle.query.specs.Place.{Place, Rect, In, NonEmpty, Axis, x_axis, y_axis, low_edge, high_edge, corner}
use Rattle.query.specs.Deck.{Stop, Deck}
use Rattle.query.specs.Travel.{travel, near}
use Rattle.query.specs.Cost.{cost, before}
use Rattle.query.specs.Reach.{closest_point, travel_to}
use Rattle.query.specs.Bound.{bound}
use Rattle.query.specs.Cut.{cut_before, cut_after}
use Rattle.query.specs.Laws.{with_stops, BoundLaw}
use Rattle.query.proofs.Axes.{for_both, place_eq}
use Rattle.query.proofs.CostLaws.{paid, least_paid, cost_sum, bound_sum}
use Rattle.query.proofs.CornerBoundLaws.{above_corner_bound}
use Rattle.query.proofs.Travel.{closest_point_in, travel_to_least}

-- what is paid with the smaller of near and a travel does not fall with the travel
paid_mono : (v n t u : ℕ) → t ≤ u → v * min n t ≤ v * min n u
paid_mono v n t u h = mul-le-mul_left v (omega arith)

pub below : (deck : Deck) (r : Rect) (p : Place) → In r p → bound deck r ≤ cost deck p
below deck r p h = rw (bound_sum deck r, cost_sum deck p) (sum_of_le (least_paid deck r) (paid deck p) deck.stops
    (λ stop m. paid_mono stop.visits (near deck stop) _ _ (travel_to_least deck r stop p h)))

pub most : (deck : Deck) (r : Rect) → bound deck r ≤ before deck
unfolding before
most deck r = rw (bound_sum deck r) (sum_of_le (least_paid deck r) (λ stop. stop.visits * near deck stop) deck.stops
    (λ stop m. mul-le-mul_left stop.visits (omega arith)))

-- no stop is closer to a rectangle in r than to r
closer : (deck : Deck) (r q : Rect) → NonEmpty q → ((p : Place) → In q p → In r p) → (stop : Stop) → travel_to deck r stop ≤ travel_to deck q stop
unfolding travel_to
closer deck r q n sub stop = travel_to_least deck r stop (closest_point q stop.at) (sub _ (closest_point_in q stop.at n))

pub part : (deck : Deck) (r q : Rect) → NonEmpty q → In r (corner q) → In r (record { x = q.xhi; y = q.yhi }) → bound deck r ≤ bound deck q
part deck r q n h k = rw (bound_sum deck r, bound_sum deck q) (sum_of_le (least_paid deck r) (least_paid deck q) deck.stops
    (λ stop m. paid_mono stop.visits (near deck stop) _ _ (closer deck r q n (λ p i. omega (arith, order)) stop)))

parts : (deck : Deck) (r : Rect) → NonEmpty r → (axis : Axis) (v : ℤ) → low_edge axis r ≤ℤ v → v ≤ℤ high_edge axis r
    → (bound deck r ≤ bound deck (cut_before axis v r)) × (bound deck r ≤ bound deck (cut_after axis v r))
parts deck r n x_axis v g h = (
  part deck r (cut_before x_axis v r) (omega (arith, order)) (omega (arith, order)) (omega (arith, order)),
  part deck r (cut_after x_axis v r) (omega (arith, order)) (omega (arith, order)) (omega (arith, order)),
)
parts deck r n y_axis v g h = (
  part deck r (cut_before y_axis v r) (omega (arith, order)) (omega (arith, order)) (omega (arith, order)),
  part deck r (cut_after y_axis v r) (omega (arith, order)) (omega (arith, order)) (omega (arith, order)),
)

-- the closest point of a rectangle of one point is that point
closest_is : (r : Rect) (p : Place) → r.xlo ≡ r.xhi → r.ylo ≡ r.yhi → closest_point r p ≡ corner r
closest_is r p g h = let i = closest_point_in r p (omega (arith, order)) in
    place_eq (closest_point r p) (corner r) (for_both _ (omega (arith, order)) (omega (arith, order)))

at_corner : (deck : Deck) (r : Rect) (stop : Stop) → r.xlo ≡ r.xhi → r.ylo ≡ r.yhi → travel deck.axis stop.at (corner r) ≤ travel_to deck r stop
unfolding travel_to
at_corner deck r stop g h =
    subst (λ (q : Place). travel deck.axis stop.at (corner r) ≤ travel deck.axis stop.at q) (sym (closest_is r stop.at g h)) (omega arith)

point : (deck : Deck) (r : Rect) → r.xlo ≡ r.xhi → r.ylo ≡ r.yhi → bound deck r ≡ cost deck (corner r)
point deck r g h = omega (arith, below deck r (corner r) (omega (arith, order)), above)
  where
    above : cost deck (corner r) ≤ bound deck r
    above = rw (bound_sum deck r, cost_sum deck (corner r)) (sum_of_le (paid deck (corner r)) (least_paid deck r) deck.stops
        (λ stop m. paid_mono stop.visits (near deck stop) _ _ (at_corner deck r stop g h)))

-- the closest point costs a stop alone just its part
one_stop : (deck : Deck) (r : Rect) → NonEmpty r → (stop : Stop)
    → (p : Place) × In r p × (bound (with_stops deck (stop ∷ [])) r ≡ cost (with_stops deck (stop ∷ [])) p)
unfolding bound cost travel_to
one_stop deck r n stop = (closest_point r stop.at, closest_point_in r stop.at n, refl)

stop_by_stop : (deck : Deck) (r : Rect) (stop : Stop) (stops : List Stop)
    → bound (with_stops deck (stop ∷ stops)) r ≡ bound (with_stops deck (stop ∷ [])) r + bound (with_stops deck stops) r
unfolding bound sum_of near travel_to
stop_by_stop deck r stop stops = omega arith

pub bound_law : (deck : Deck) (r : Rect) → BoundLaw deck r
bound_law deck r = record {
  below = below deck r;
  most = most deck r;
  point = point deck r;
  part = part deck r;
  parts = parts deck r;
  one_stop = one_stop deck r;
  stop_by_stop = stop_by_stop deck r;
  above_corner_bound = above_corner_bound deck r;
}
