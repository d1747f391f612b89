-- The search by cells, from its start and round by round (RULES "Live cells", "Rounds"): the paper's MDOL_prog.
use Rattle.std.specs.Prelude.{ℕ, zero, suc, Bool, ◌&&◌, List, [], ◌∷◌, map}
use Rattle.numbers.specs.Lists.{keep, least_by, insert_by}
use Rattle.query.specs.Place.{Place, Rect, corner}
use Rattle.query.specs.Grid.{Grid}
use Rattle.query.specs.Problem.{Rules, Problem}
use Rattle.query.specs.Cut.{can_cut, cut_line, cut_before, cut_after, new_corners}
use Rattle.query.specs.Order.{Priced, Cell, precedes, priced_key, cell_key, better, cell_before}

-- where a search stands: the best place so far, the live cells in their order, and how many cuts were made
pub record Search : Type 0 where
  pub best : Priced
  pub live : List Cell
  pub cuts : ℕ

-- a live cell: it can be cut, and its bound and corner come before the best cost and place. The paper prunes at equal figures too
unfoldable pub is_live : Grid → Priced → Cell → Bool
unfolding can_cut precedes
is_live G best c = can_cut G c.rect && precedes (cell_key c) (priced_key best)

abbrev pub priced_at : Rules → Place → Priced
priced_at R p = record { at = p; cost = R.price p }

abbrev pub cell_of : Rules → Rect → Cell
cell_of R r = record { rect = r; bound = R.bound r }

-- the best place after some more are priced
unfoldable pub best_of : Rules → Priced → List Place → Priced
unfolding better least_by
best_of R best places = least_by better best (map (priced_at R) places)

-- the corners of a rectangle but for (xlo, ylo)
unfoldable pub other_corners : Rect → List Place
other_corners r = record { x = r.xlo; y = r.yhi } ∷ record { x = r.xhi; y = r.ylo } ∷ record { x = r.xhi; y = r.yhi } ∷ []

-- the best of the four corners of the area
unfoldable pub start_best : Problem → Priced
unfolding best_of other_corners
start_best P = best_of P.rules (priced_at P.rules (corner P.area)) (other_corners P.area)

-- the start, with the area as the only cell, if that is live
unfoldable pub start : Problem → Search
unfolding keep is_live start_best
start P = record { best = start_best P; live = keep (is_live P.rules.grid (start_best P)) (cell_of P.rules P.area ∷ []); cuts = 0 }

-- the other cells in order, with the two parts of cell c at their places
unfoldable pub cells_after : Rules → Cell → List Cell → List Cell
unfolding insert_by cell_before cut_line
cells_after R c others = let line = cut_line R.grid c.rect in
    insert_by cell_before (cell_of R (cut_before line.axis line.at c.rect))
    (insert_by cell_before (cell_of R (cut_after line.axis line.at c.rect)) others)

-- the best place after the new corners of cell c are priced
unfoldable pub best_after : Rules → Priced → Cell → Priced
unfolding best_of cut_line
best_after R best c = let line = cut_line R.grid c.rect in best_of R best (new_corners line.axis line.at c.rect)

-- a round on the live cells: it takes the first of them, and where there is none nothing changes
unfoldable pub round_on : Rules → Search → List Cell → Search
unfolding keep is_live best_after cells_after
round_on R s [] = s
round_on R s (c ∷ others) = let best = best_after R s.best c in
    record { best = best; live = keep (is_live R.grid best) (cells_after R c others); cuts = suc s.cuts }

-- one round
unfoldable pub round : Rules → Search → Search
unfolding round_on
round R s = round_on R s s.live

-- the search after n rounds, or after fewer if no cell is live by then
unfoldable pub run : Problem → ℕ → Search
unfolding start round
run P zero = start P
run P (suc n) = round P.rules (run P n)
