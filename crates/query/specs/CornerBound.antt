-- The corner bound of a rectangle (RULES "Corner bound"), with which the bound is compared (Laws.antt: BoundLaw). No search goes by it.
use Rattle.std.specs.Prelude.{ℕ, ◌+◌, ◌*◌, max, ℤ, pos, ◌-ℤ◌}
use Rattle.numbers.specs.Integer.{dist, half_up}
use Rattle.numbers.specs.Lists.{sum_of, keep}
use Rattle.query.specs.Place.{Rect}
use Rattle.query.specs.Deck.{AxisCosts, Deck}
use Rattle.query.specs.Cost.{cost}
use Rattle.query.specs.Reach.{reach}

-- the span: width and height, each by its axis cost
unfoldable pub span : AxisCosts → Rect → ℕ
unfolding dist
span axis r = axis.a * dist r.xlo r.xhi + axis.b * dist r.ylo r.yhi

-- the load of a rectangle: the weight of the paper's VCU(R)
unfoldable pub load : Deck → Rect → ℕ
unfolding sum_of keep reach
load deck r = sum_of (λ stop. stop.visits) (keep (reach deck r) deck.stops)

-- the costs of two opposite corners together, of the dearer diagonal
unfoldable pub corner_sum : Deck → Rect → ℕ
unfolding cost
corner_sum deck r = max (cost deck (record { x = r.xlo; y = r.ylo }) + cost deck (record { x = r.xhi; y = r.yhi }))
    (cost deck (record { x = r.xlo; y = r.yhi }) + cost deck (record { x = r.xhi; y = r.ylo }))

-- the paper's data-dependent lower bound LB(C), of its Theorem 4, times the total weight and rounded towards plus infinity
unfoldable pub corner_bound : Deck → Rect → ℤ
unfolding half_up corner_sum span load
corner_bound deck r = half_up (pos (corner_sum deck r) -ℤ pos (span deck.axis r * load deck r))
