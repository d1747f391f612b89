-- Cells with their bounds, and what a cut makes of a cell (RULES "Bound", "Cuts"), as the code has it.
use Rattle.std.specs.Prelude.{T, pos}
use Rattle.query.specs.Place.{Rect, corner}
use Rattle.query.specs.Grid.{Grid}
use Rattle.query.specs.Cut.{Line, can_cut, cut_before, cut_after, low_corner, high_corner}
use Rattle.columns.specs.Objects.{Pricing}
use Rattle.deck.specs.Values.{rect_record}
use Rattle.reach.specs.Columns.{Ranged}
use Rattle.pricing.specs.ObjectFigures.{cost_of, bound_of}
use Rattle.cells.specs.declared.Cell.{Cell}
use Rattle.priced_place.specs.ObjectProblem.{priced_place_of}
use Rattle.search.specs.declared.halves.Halves.{Halves}

-- the cell of a rectangle
abbrev pub cell_for : Pricing → Rect → Cell
cell_for P r = record { rect = rect_record r; bound = pos (bound_of P r) }

-- what the two parts of a cell make: the low corner of the second and the high corner of the first, with their costs, and both cells
unfoldable pub parts_of : Pricing → Rect → Rect → Halves
unfolding cost_of bound_of
parts_of P first second = record {
  low = priced_place_of P (corner second);
  high = priced_place_of P (record { x = first.xhi; y = first.yhi });
  first = cell_for P first;
  second = cell_for P second;
}

-- what a cut at a line makes of a cell
unfoldable pub halves_of : Pricing → Line → Rect → Halves
unfolding cost_of bound_of
halves_of P line r = record {
  low = priced_place_of P (low_corner line.axis line.at r);
  high = priced_place_of P (high_corner line.axis line.at r);
  first = cell_for P (cut_before line.axis line.at r);
  second = cell_for P (cut_after line.axis line.at r);
}

-- a rectangle that can be cut
pub record Cutting (G : Grid) (rectangle : Rect) : Type 0 where
  pub ranged : Ranged rectangle
  pub can_cut_lem : T (can_cut G rectangle)
