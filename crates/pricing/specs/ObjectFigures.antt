-- Cost, before and bound (RULES "Cost", "Bound") of objects at scaled places, between which travel is plain; and what figures stay within.
use Rattle.std.specs.Prelude.{ℕ, ◌*◌, ◌≤◌, min, ◌≡◌}
use Rattle.numbers.specs.Lists.{sum_of}
use Rattle.query.specs.Place.{Place, Rect, corner}
use Rattle.query.specs.Deck.{plain}
use Rattle.query.specs.Travel.{travel}
use Rattle.query.specs.Range.{cost_limit}
use Rattle.columns.specs.Objects.{scaled_place, Pricing}
use Rattle.reach.specs.ObjectReach.{travel_to_of}
use Rattle.pricing.specs.declared.PartFigures.{PartFigures}

unfoldable pub cost_of : Pricing → Place → ℕ
unfolding sum_of travel
cost_of P p = sum_of (λ s. s.visits * min s.near (travel plain s.at (scaled_place P.axis p))) P.objects

unfoldable pub before_of : Pricing → ℕ
unfolding sum_of
before_of P = sum_of (λ s. s.visits * s.near) P.objects

unfoldable pub bound_of : Pricing → Rect → ℕ
unfolding sum_of travel_to_of
bound_of P r = sum_of (λ s. s.visits * min s.near (travel_to_of P r s)) P.objects

-- a result r that is a figure, which stays within a limit
pub record Figure (figure limit r : ℕ) : Type 0 where
  pub is : r ≡ figure
  pub within : r ≤ limit

-- the figures of two parts of a cell: the costs of the low corner of the second and of the high corner of the first, and the bounds of both
pub record PartsPriced (P : Pricing) (first second : Rect) (figures : PartFigures) : Type 0 where
  pub low : Figure (cost_of P (corner second)) cost_limit figures.low_cost
  pub high : Figure (cost_of P (record { x = first.xhi; y = first.yhi })) cost_limit figures.high_cost
  pub first_bound : Figure (bound_of P first) cost_limit figures.first_bound
  pub second_bound : Figure (bound_of P second) cost_limit figures.second_bound
