-- The exhaustive search (RULES "Exhaustive search"): the paper's MDOL_basic.
use mathlib.Core.List.{List, map, flat_map}
use Rattle.query.specs.Place.{Place, corner}
use Rattle.query.specs.Grid.{Grid}
use Rattle.query.specs.Problem.{Problem}
use Rattle.query.specs.Order.{Priced}
use Rattle.query.specs.Search.{priced_at, best_of}

-- all crossings of two lines: the paper's candidate locations
unfoldable pub crossings : Grid → List Place
unfolding flat_map
crossings G = flat_map (λ v. map (λ h. record { x = v; y = h }) G.horizontal) G.vertical

-- the best of all crossings, of which the area's corner (xlo, ylo) is one
unfoldable pub exhaustive : Problem → Priced
unfolding best_of crossings
exhaustive P = best_of P.rules (priced_at P.rules (corner P.area)) (crossings P.rules.grid)
