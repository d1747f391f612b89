-- The cells into which the cuts have parted the area (RULES "Cuts", "Live cells"): the live ones, which a search keeps, and the dead ones,
-- which it has dropped. Laws are stated of it; no figure of a report depends on it.
use Rattle.std.specs.Prelude.{ℕ, zero, suc, not, List, [], ◌∷◌, ◌++◌}
use Rattle.numbers.specs.Lists.{keep}
use Rattle.query.specs.Grid.{Grid}
use Rattle.query.specs.Problem.{Rules, Problem}
use Rattle.query.specs.Order.{Priced, Cell}
use Rattle.query.specs.Search.{cell_of, is_live, cells_after, run}

-- the cells that a round makes of live cells, before it asks which are live
unfoldable pub cut_up : Rules → List Cell → List Cell
unfolding cells_after
cut_up R [] = []
cut_up R (c ∷ others) = cells_after R c others

-- those of some cells that are not live
unfoldable pub not_live : Grid → Priced → List Cell → List Cell
unfolding keep is_live
not_live G best cells = keep (λ c. not (is_live G best c)) cells

-- the cells dropped by the start and by the first n rounds
unfoldable pub dead : Problem → ℕ → List Cell
unfolding not_live run cut_up
dead P zero = not_live P.rules.grid (run P zero).best (cell_of P.rules P.area ∷ [])
dead P (suc n) = not_live P.rules.grid (run P (suc n)).best (cut_up P.rules (run P n).live) ++ dead P n

unfoldable pub partition : Problem → ℕ → List Cell
unfolding dead run
partition P n = (run P n).live ++ dead P n
