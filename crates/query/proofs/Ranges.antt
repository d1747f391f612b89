-- The figures of a deck whose values are in range stay within `travel_limit`, `load_limit` and `cost_limit`.
use mathlib.Core.List.{Memᴰ}
use Prim.Native.Nat.{ℕ, ◌*◌, ◌≤◌, min}
use native.Mathlib.Nat.{mul-le-mul, mul-le-mul_right}
use native.Mathlib.Omega.{arith}
use lib.IntN.{nat_abs}
use Rattle.numbers.specs.Lists.{sum_of}
use Rattle.numbers.proofs.Integer.{half_sub_abs}
use Rattle.numbers.proofs.Distance.{dist_most}
use Rattle.numbers.proofs.Members.{length_non_empty}
use Rattle.numbers.proofs.Sums.{sum_of_most, sum_of_keep_le}
use Rattle.query.specs.Place.{Place, Rect, corner}
use Rattle.query.specs.Deck.{AxisCosts, Stop, Deck}
use Rattle.query.specs.Travel.{travel, near}
use Rattle.query.specs.Cost.{cost, before}
use Rattle.query.specs.Reach.{reach}
use Rattle.query.specs.Bound.{bound}
use Rattle.query.specs.CornerBound.{span, load, corner_sum, corner_bound}
use Rattle.query.specs.Range.{coordinate_limit, visits_limit, axis_cost_limit, PlaceInRange, RectInRange, InRange, travel_limit, load_limit, cost_limit}
use Rattle.query.specs.Range.{FigureLimits}
use Rattle.query.proofs.CostLaws.{cost_sum}
use Rattle.query.proofs.NearLaws.{near_law}
use Rattle.query.proofs.BoundLaws.{most}
use Rattle.query.proofs.CornerBoundLaws.{corner_bound_is, corner_sum_is}

pub costs_limit : (axis : AxisCosts) → (axis.a ≤ axis_cost_limit) × (axis.b ≤ axis_cost_limit) → (p q : Place) → PlaceInRange p → PlaceInRange q →
    travel axis p q ≤ travel_limit
unfolding travel
costs_limit axis most p q h k = omega (
  arith,
  mul-le-mul most.0 (dist_most coordinate_limit p.x q.x h.x_range k.x_range),
  mul-le-mul most.1 (dist_most coordinate_limit p.y q.y h.y_range k.y_range),
)

module _ (deck : Deck) (range : InRange deck) where
  travel_limit_lem : (p q : Place) → PlaceInRange p → PlaceInRange q → travel deck.axis p q ≤ travel_limit
  travel_limit_lem = costs_limit deck.axis range.axis_most

  span_limit : (r : Rect) → RectInRange r → span deck.axis r ≤ travel_limit
  unfolding span travel
  span_limit r h = travel_limit_lem (corner r) (record { x = r.xhi; y = r.yhi }) h.low_corner_law h.high_corner_law

  near_limit : (stop : Stop) → Memᴰ stop deck.stops → near deck stop ≤ travel_limit
  near_limit stop m =
      let (post, n, e) = (near_law deck stop).some_post (length_non_empty deck.posts range.some_posts) in
      omega (arith, e, travel_limit_lem stop.at post (range.stops stop m).place (range.posts post n))

  -- a sum over the stops of visits × a number that is at most k
  visits_limit_lem : (f : Stop → ℕ) (k : ℕ) → ((stop : Stop) → Memᴰ stop deck.stops → f stop ≤ k) →
      sum_of (λ stop. stop.visits * f stop) deck.stops ≤ load_limit * k
  visits_limit_lem f k h = omega (
    arith,
    mul-le-mul_right (visits_limit * k) range.most_stops,
    sum_of_most (λ (stop : Stop). stop.visits * f stop) (visits_limit * k) deck.stops (λ stop m. mul-le-mul (range.stops stop m).most_visits (h stop m)),
  )

  cost_limit_lem : (p : Place) → cost deck p ≤ cost_limit
  cost_limit_lem p = rw (cost_sum deck p) (visits_limit_lem (λ stop. min (near deck stop) (travel deck.axis stop.at p)) travel_limit
      (λ stop m. omega (arith, near_limit stop m)))

  before_limit : before deck ≤ cost_limit
  unfolding before
  before_limit = visits_limit_lem (near deck) travel_limit near_limit

  load_limit_lem : (r : Rect) → load deck r ≤ load_limit
  unfolding load
  load_limit_lem r = omega (
    arith,
    sum_of_keep_le (λ (stop : Stop). stop.visits) (reach deck r) deck.stops,
    sum_of_most (λ (stop : Stop). stop.visits) visits_limit deck.stops (λ stop m. (range.stops stop m).most_visits),
  )

  bound_limit : (r : Rect) → bound deck r ≤ cost_limit
  bound_limit r = omega (arith, most deck r, before_limit)

  corner_bound_limit : (r : Rect) → RectInRange r → nat_abs (corner_bound deck r) ≤ cost_limit
  corner_bound_limit r h = rw (corner_bound_is deck r) (half_sub_abs (corner_sum deck r) (span deck.axis r * load deck r) cost_limit corners
      (omega (arith, mul-le-mul (span_limit r h) (load_limit_lem r))))
    where
      corners : corner_sum deck r ≤ 2 * cost_limit
      corners = omega (
        arith,
        corner_sum_is deck r,
        cost_limit_lem (record { x = r.xlo; y = r.ylo }),
        cost_limit_lem (record { x = r.xhi; y = r.yhi }),
        cost_limit_lem (record { x = r.xlo; y = r.yhi }),
        cost_limit_lem (record { x = r.xhi; y = r.ylo }),
      )

  pub figure_limits : FigureLimits deck
  figure_limits = record {
    travel_limit_lem = travel_limit_lem;
    near_limit = near_limit;
    cost_limit_lem = cost_limit_lem;
    before_limit = before_limit;
    bound_limit = bound_limit;
    load_limit_lem = load_limit_lem;
    span_limit = span_limit;
    corner_bound_limit = corner_bound_limit;
  }
