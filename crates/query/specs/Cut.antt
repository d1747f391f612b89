-- When a cell can be cut, on which axis and at which line, and its parts (RULES "Cuts").
use Rattle.std.specs.Prelude.{ℕ, Bool, cond, ◌&&◌, ◌||◌, List, [], ◌∷◌, ltb, eqb, ℤ, ◌+ℤ◌}
use Rattle.std.specs.Int.Signed.{lt_z}
use Rattle.numbers.specs.Integer.{dist, strictly_between}
use Rattle.numbers.specs.Lists.{keep, non_empty, least_by}
use Rattle.query.specs.Place.{Place, Rect, Axis, x_axis, y_axis, low_edge, high_edge}
use Rattle.query.specs.Grid.{Grid, lines_along}

-- the lines strictly inside a cell along an axis
unfoldable pub inside : Grid → Axis → Rect → List ℤ
unfolding keep strictly_between
inside G axis r = keep (strictly_between (low_edge axis r) (high_edge axis r)) (lines_along G axis)

-- a cell can be cut: it has a line inside, along one axis or the other
unfoldable pub can_cut : Grid → Rect → Bool
unfolding inside
can_cut G r = non_empty (inside G x_axis r) || non_empty (inside G y_axis r)

-- the length of a side, in plain tenths
unfoldable pub side : Axis → Rect → ℕ
unfolding dist
side axis r = dist (low_edge axis r) (high_edge axis r)

-- the axis of the longer side, by plain tenths; x where both are equal
unfoldable pub longer_side : Rect → Axis
unfolding side
longer_side r = cond (ltb (side x_axis r) (side y_axis r)) y_axis x_axis

-- the axis on which a cell is cut: the sides count only where both have lines inside
unfoldable pub cut_axis : Grid → Rect → Axis
unfolding inside longer_side
cut_axis G r = cond (non_empty (inside G x_axis r)) (cond (non_empty (inside G y_axis r)) (longer_side r) x_axis) y_axis

-- twice the distance from v to the middle of lo .. hi, which need not be a whole number
unfoldable pub off_middle : ℤ → ℤ → ℤ → ℕ
unfolding dist
off_middle lo hi v = dist (v +ℤ v) (lo +ℤ hi)

-- line v goes before line w: it is closer to the middle, or as close and smaller
unfoldable pub closer_line : ℤ → ℤ → ℤ → ℤ → Bool
unfolding off_middle
closer_line lo hi v w = ltb (off_middle lo hi v) (off_middle lo hi w) || (eqb (off_middle lo hi v) (off_middle lo hi w) && lt_z v w)

-- of the lines inside, the one that goes first; lo where there is none
unfoldable pub middle_line : ℤ → ℤ → List ℤ → ℤ
unfolding closer_line least_by
middle_line lo hi [] = lo
middle_line lo hi (v ∷ vs) = least_by (closer_line lo hi) v vs

-- a line: its axis, and its coordinate on it
pub record Line : Type 0 where
  pub axis : Axis
  pub at : ℤ

-- the line at which a round cuts a cell
unfoldable pub cut_line : Grid → Rect → Line
unfolding cut_axis middle_line inside
cut_line G r = record {
  axis = cut_axis G r;
  at = middle_line (low_edge (cut_axis G r) r) (high_edge (cut_axis G r) r) (inside G (cut_axis G r) r);
}

-- the part of a cell up to a line, and the part from it on: both hold the line
abbrev pub cut_before : Axis → ℤ → Rect → Rect
cut_before x_axis v r = record { xlo = r.xlo; ylo = r.ylo; xhi = v; yhi = r.yhi }
cut_before y_axis v r = record { xlo = r.xlo; ylo = r.ylo; xhi = r.xhi; yhi = v }

abbrev pub cut_after : Axis → ℤ → Rect → Rect
cut_after x_axis v r = record { xlo = v; ylo = r.ylo; xhi = r.xhi; yhi = r.yhi }
cut_after y_axis v r = record { xlo = r.xlo; ylo = v; xhi = r.xhi; yhi = r.yhi }

-- the two new corners of a cut, where its line meets the edges of the cell
abbrev pub low_corner : Axis → ℤ → Rect → Place
low_corner x_axis v r = record { x = v; y = r.ylo }
low_corner y_axis v r = record { x = r.xlo; y = v }

abbrev pub high_corner : Axis → ℤ → Rect → Place
high_corner x_axis v r = record { x = v; y = r.yhi }
high_corner y_axis v r = record { x = r.xhi; y = v }

abbrev pub new_corners : Axis → ℤ → Rect → List Place
new_corners axis v r = low_corner axis v r ∷ high_corner axis v r ∷ []
