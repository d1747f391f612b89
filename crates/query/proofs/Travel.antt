-- Travel to the closest point of a rectangle.
use Prim.Native.Nat.{◌≤◌}
use native.Mathlib.Nat.{mul-le-mul_left}
use native.Mathlib.Omega.{arith}
use Rattle.numbers.proofs.Distance.{clamp_low, clamp_high, clamp_closest}
use Rattle.query.specs.Place.{Place, Rect, In, NonEmpty}
use Rattle.query.specs.Deck.{Stop, Deck}
use Rattle.query.specs.Travel.{travel}
use Rattle.query.specs.Reach.{closest_point, travel_to}

pub closest_point_in : (r : Rect) (p : Place) → NonEmpty r → In r (closest_point r p)
unfolding closest_point
closest_point_in r p h = record {
  left = clamp_low r.xlo r.xhi p.x h.across;
  right = clamp_high r.xlo r.xhi p.x h.across;
  front = clamp_low r.ylo r.yhi p.y h.deep;
  back = clamp_high r.ylo r.yhi p.y h.deep;
}

-- no point of a rectangle is closer to a stop than its closest point
pub travel_to_least : (deck : Deck) (r : Rect) (stop : Stop) (p : Place) → In r p → travel_to deck r stop ≤ travel deck.axis stop.at p
unfolding travel_to travel closest_point
travel_to_least deck r stop p h =
    omega (
      arith,
      mul-le-mul_left deck.axis.a (clamp_closest r.xlo r.xhi stop.at.x p.x h.left h.right),
      mul-le-mul_left deck.axis.b (clamp_closest r.ylo r.yhi stop.at.y p.y h.front h.back),
    )
