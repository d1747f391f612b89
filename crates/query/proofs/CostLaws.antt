-- A stop out of reach in numbers, and cost and bound as sums over the stops, so that proofs need not open `near`.
use mathlib.Core.Path.{◌≡◌, refl}
use mathlib.Core.Bool.{not}
use Prim.Native.Nat.{ℕ, ◌*◌, ◌≤◌, min}
use lib.Dec.{T, nltb→le}
use Rattle.numbers.specs.Lists.{sum_of}
use Rattle.query.specs.Place.{Place, Rect}
use Rattle.query.specs.Deck.{Stop, Deck}
use Rattle.query.specs.Travel.{travel, near}
use Rattle.query.specs.Cost.{cost}
use Rattle.query.specs.Reach.{travel_to, reach}
use Rattle.query.specs.Bound.{bound}

pub nreach_nat : (deck : Deck) (r : Rect) (stop : Stop) → T (not (reach deck r stop)) → near deck stop ≤ travel_to deck r stop
unfolding reach
nreach_nat deck r stop t = nltb→le _ _ t

-- a stop's part of the cost of a place, and of the bound of a rectangle
abbrev pub paid : Deck → Place → Stop → ℕ
paid deck p stop = stop.visits * min (near deck stop) (travel deck.axis stop.at p)

abbrev pub least_paid : Deck → Rect → Stop → ℕ
least_paid deck r stop = stop.visits * min (near deck stop) (travel_to deck r stop)

pub cost_sum : (deck : Deck) (p : Place) → cost deck p ≡ sum_of (paid deck p) deck.stops
unfolding cost
cost_sum deck p = refl

pub bound_sum : (deck : Deck) (r : Rect) → bound deck r ≡ sum_of (least_paid deck r) deck.stops
unfolding bound
bound_sum deck r = refl
