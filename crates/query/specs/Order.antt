-- Priced places and cells, and the orders among them (RULES "Live cells", "Earlier").
use Rattle.std.specs.Prelude.{ℕ, Bool, not, ◌&&◌, ◌||◌, T, ℤ, pos}
use mathlib.Core.List.{List, Pairwise}
use Rattle.std.specs.Int.Signed.{lt_z}
use Rattle.numbers.specs.Integer.{eq_z}
use Rattle.query.specs.Place.{Place, Rect, corner, earlier}

-- a place with its cost
pub record Priced : Type 0 where
  pub at : Place
  pub cost : ℕ

-- a cell with its bound
pub record Cell : Type 0 where
  pub rect : Rect
  pub bound : ℤ

-- what is compared: a figure, and a place for equal figures
pub record Key : Type 0 where
  pub figure : ℤ
  pub place : Place

-- a smaller figure comes first, and of equal figures the one with the earlier place
unfoldable pub precedes : Key → Key → Bool
unfolding earlier
precedes k l = lt_z k.figure l.figure || (eq_z k.figure l.figure && earlier k.place l.place)

abbrev pub priced_key : Priced → Key
priced_key p = record { figure = pos p.cost; place = p.at }

abbrev pub cell_key : Cell → Key
cell_key c = record { figure = c.bound; place = corner c.rect }

-- a better place: cheaper, or as cheap and earlier
unfoldable pub better : Priced → Priced → Bool
unfolding precedes
better p q = precedes (priced_key p) (priced_key q)

-- the order of live cells: by bound, then by the corner (xlo, ylo)
unfoldable pub cell_before : Cell → Cell → Bool
unfolding precedes
cell_before c d = precedes (cell_key c) (cell_key d)

-- none of these cells goes before one that stands in front of it
abbrev pub CellsInOrder : List Cell → Type 0
CellsInOrder cells = Pairwise (λ c d. T (not (cell_before d c))) cells
