-- The corner bound of a rectangle is at most its bound.
use mathlib.Core.Path.{◌≡◌, refl, ap}
use mathlib.Core.Bool.{Bool, true, false, not, cond}
use Prim.Native.Nat.{ℕ, ◌+◌, ◌*◌, ◌≤◌, max, min}
use native.Mathlib.Nat.{mul-le-mul_left}
use native.Mathlib.Omega.{arith}
use lib.Dec.{T}
use lib.IntN.{ℤ, pos, ◌-ℤ◌}
use lib.Signed.{◌≤ℤ◌}
use Rattle.numbers.specs.Integer.{dist, clamp, half_up}
use Rattle.numbers.specs.Lists.{sum_of}
use Rattle.numbers.proofs.Integer.{order, add_nat, half_nat, half_sub_le}
use Rattle.numbers.proofs.Distance.{clamp_both}
use Rattle.numbers.proofs.Sums.{sum_of_linear, sum_of_keep}
use Rattle.query.specs.Place.{Place, Rect, NonEmpty, corner}
use Rattle.query.specs.Deck.{Stop, Deck}
use Rattle.query.specs.Travel.{travel, near}
use Rattle.query.specs.Cost.{cost}
use Rattle.query.specs.Reach.{closest_point, travel_to, reach}
use Rattle.query.specs.Bound.{bound}
use Rattle.query.specs.CornerBound.{span, load, corner_sum, corner_bound}
use Rattle.query.specs.Laws.{HalfLaw}
use Rattle.query.proofs.CostLaws.{nreach_nat, paid, least_paid, cost_sum, bound_sum}

-- the corners but for (xlo, ylo)
abbrev pub back_left : Rect → Place
back_left r = record { x = r.xlo; y = r.yhi }

abbrev pub front_right : Rect → Place
front_right r = record { x = r.xhi; y = r.ylo }

abbrev pub back_right : Rect → Place
back_right r = record { x = r.xhi; y = r.yhi }

-- span × load
abbrev pub slack : Deck → Rect → ℕ
slack deck r = span deck.axis r * load deck r

-- the definitions one step at a time
pub corner_bound_is : (deck : Deck) (r : Rect) → corner_bound deck r ≡ half_up (pos (corner_sum deck r) -ℤ pos (slack deck r))
unfolding corner_bound
corner_bound_is deck r = refl

pub corner_sum_is : (deck : Deck) (r : Rect) → corner_sum deck r
    ≡ max (cost deck (corner r) + cost deck (back_right r)) (cost deck (back_left r) + cost deck (front_right r))
unfolding corner_sum
corner_sum_is deck r = refl

-- a stop's part of the load of a rectangle
abbrev pub borne : Deck → Rect → Stop → ℕ
borne deck r stop = cond (reach deck r stop) stop.visits 0

pub load_sum : (deck : Deck) (r : Rect) → load deck r ≡ sum_of (borne deck r) deck.stops
unfolding load
load_sum deck r = sum_of_keep (λ (stop : Stop). stop.visits) (reach deck r) deck.stops

-- along one axis, each distance multiplied by its cost
sides : (k : ℕ) (lo hi v : ℤ) → lo ≤ℤ hi → k * dist v lo + k * dist v hi ≡ 2 * (k * dist v (clamp lo hi v)) + k * dist lo hi
sides k lo hi v h = omega (arith, ap (λ (n : ℕ). k * n) (clamp_both lo hi v h))

-- p and q are opposite corners: the travels to them add up to twice that to the closest point and the span
record Opposite (deck : Deck) (r : Rect) (p q : Place) : Type 0 where
  together : (stop : Stop) → travel deck.axis stop.at p + travel deck.axis stop.at q ≡ 2 * travel_to deck r stop + span deck.axis r

rising : (deck : Deck) (r : Rect) → NonEmpty r → Opposite deck r (corner r) (back_right r)
unfolding travel travel_to closest_point span
rising deck r n = record {
  together = λ stop. omega (arith, sides deck.axis.a r.xlo r.xhi stop.at.x n.across, sides deck.axis.b r.ylo r.yhi stop.at.y n.deep);
}

falling : (deck : Deck) (r : Rect) → NonEmpty r → Opposite deck r (back_left r) (front_right r)
unfolding travel travel_to closest_point span
falling deck r n = record {
  together = λ stop. omega (arith, sides deck.axis.a r.xlo r.xhi stop.at.x n.across, sides deck.axis.b r.ylo r.yhi stop.at.y n.deep);
}

-- both costs together, stop by stop
opposite_costs : (deck : Deck) (r : Rect) (p q : Place) → Opposite deck r p q → cost deck p + cost deck q ≤ 2 * bound deck r + slack deck r
opposite_costs deck r p q o = rw (
  cost_sum deck p,
  cost_sum deck q,
  bound_sum deck r,
  load_sum deck r,
) (omega (
  arith,
  sum_of_linear 1 1 2 (span deck.axis r) (paid deck p) (paid deck q) (least_paid deck r) (borne deck r) deck.stops
      (λ stop m. omega (arith, each stop)),
))
  where
    pair : (v n t u w s : ℕ) (b : Bool) → t + u ≡ 2 * w + s → (T (not b) → n ≤ w) → v * min n t + v * min n u ≤ 2 * (v * min n w) + s * cond b v 0
    pair v n t u w s true e far = let h : min n t + min n u ≤ 2 * min n w + s = omega arith in omega (arith, mul-le-mul_left v h)
    pair v n t u w s false e far = let h : min n t + min n u ≤ 2 * min n w = omega (arith, far tt) in omega (arith, mul-le-mul_left v h)

    each : (stop : Stop) → paid deck p stop + paid deck q stop ≤ 2 * least_paid deck r stop + span deck.axis r * borne deck r stop
    each stop = pair stop.visits (near deck stop) _ _ (travel_to deck r stop) (span deck.axis r) (reach deck r stop) (o.together stop)
        (nreach_nat deck r stop)

pub above_corner_bound : (deck : Deck) (r : Rect) → NonEmpty r → corner_bound deck r ≤ℤ pos (bound deck r)
above_corner_bound deck r n = rw (corner_bound_is deck r) (half_sub_le (corner_sum deck r) (slack deck r) (bound deck r) (omega (
  arith,
  corner_sum_is deck r,
  opposite_costs deck r _ _ (rising deck r n),
  opposite_costs deck r _ _ (falling deck r n),
)))

pub half_law : (z : ℤ) → HalfLaw z
half_law z = record {
  enough = omega (arith, order, add_nat (half_up z) (half_up z), half_nat z);
  at_most_one_more = omega (arith, order, add_nat (half_up z) (half_up z), add_nat z (pos 1), half_nat z);
}
