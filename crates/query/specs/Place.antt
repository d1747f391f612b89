-- Places, which of two is earlier, rectangles and the two axes (RULES "Deck", "Earlier").
use Rattle.std.specs.Prelude.{Bool, ◌&&◌, ◌||◌, ℤ, ◌≤ℤ◌}
use Rattle.std.specs.Int.Signed.{lt_z}
use Rattle.numbers.specs.Integer.{eq_z}

-- a place, the paper's location: tenths of a millimetre from the centre of the deck, x to the right and y to the back
pub record Place : Type 0 where
  pub x : ℤ
  pub y : ℤ

-- p is earlier than q: by x first, and at equal x by y
unfoldable pub earlier : Place → Place → Bool
earlier p q = lt_z p.x q.x || (eq_z p.x q.x && lt_z p.y q.y)

-- a rectangle of places, its edges included
pub record Rect : Type 0 where
  pub xlo : ℤ
  pub ylo : ℤ
  pub xhi : ℤ
  pub yhi : ℤ

-- p is a point of r
pub record In (r : Rect) (p : Place) : Type 0 where
  pub left : r.xlo ≤ℤ p.x
  pub right : p.x ≤ℤ r.xhi
  pub front : r.ylo ≤ℤ p.y
  pub back : p.y ≤ℤ r.yhi

-- r has a point
pub record NonEmpty (r : Rect) : Type 0 where
  pub across : r.xlo ≤ℤ r.xhi
  pub deep : r.ylo ≤ℤ r.yhi

-- the two axes, of which lines, gaps and cuts are told in the same words
pub data Axis : Type 0 where
  x_axis y_axis : Axis

abbrev pub coordinate : Axis → Place → ℤ
coordinate x_axis p = p.x
coordinate y_axis p = p.y

abbrev pub low_edge : Axis → Rect → ℤ
low_edge x_axis r = r.xlo
low_edge y_axis r = r.ylo

abbrev pub high_edge : Axis → Rect → ℤ
high_edge x_axis r = r.xhi
high_edge y_axis r = r.yhi

-- the corner by which cells of equal bound are told apart
abbrev pub corner : Rect → Place
corner r = record { x = r.xlo; y = r.ylo }
