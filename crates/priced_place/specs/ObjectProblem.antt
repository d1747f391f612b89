-- What a search works on, over axis costs, objects and lines (RULES "Cost", "Bound"), and places with their costs as the code has them.
use Rattle.std.specs.Prelude.{ℕ, ℤ, pos}
use Rattle.query.specs.Place.{Place, Rect}
use Rattle.query.specs.Grid.{Grid}
use Rattle.query.specs.Problem.{Rules, Problem}
use Rattle.query.specs.Order.{Priced}
use Rattle.deck.specs.Values.{place_of}
use Rattle.columns.specs.Objects.{Pricing}
use Rattle.pricing.specs.ObjectFigures.{cost_of, bound_of}
use Rattle.priced_place.specs.declared.PricedPlace.{PricedPlace}

-- what a round sees of axis costs, objects and lines
abbrev pub object_rules : Pricing → Grid → Rules
object_rules P G = record { grid = G; price = cost_of P; bound = λ r. pos (bound_of P r) }

-- the problem that they make of an area
abbrev pub object_problem : Pricing → Grid → Rect → Problem
object_problem P G area = record { area = area; rules = object_rules P G }

-- ---- places as the code holds them
-- a place with a cost
abbrev pub priced_place_at : ℤ → ℤ → ℕ → PricedPlace
priced_place_at x y cost = record { at = record { x = x; y = y }; cost = cost }

abbrev pub priced_of : PricedPlace → Priced
priced_of p = record { at = place_of p.at; cost = p.cost }

abbrev pub priced_place_of : Pricing → Place → PricedPlace
priced_place_of P p = priced_place_at p.x p.y (cost_of P p)
