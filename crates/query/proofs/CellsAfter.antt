-- The cells after a cut: the two parts of the cut cell and the other cells, which hold every point that the cells held before.
use mathlib.Core.Path.{◌≡◌, refl, subst}
use mathlib.Core.Logic.{◌⊎◌, inl, inr, ⊎_elim}
use mathlib.Core.List.{List, ◌∷◌, Memᴰ}
use lib.IntN.{ℤ}
use Rattle.numbers.specs.Lists.{insert_by}
use Rattle.numbers.proofs.Members.{insert_by_cases, insert_by_new, insert_by_old}
use Rattle.query.specs.Place.{Place, Rect, In, Axis}
use Rattle.query.specs.Grid.{Grid}
use Rattle.query.specs.Problem.{Rules}
use Rattle.query.specs.Cut.{cut_line, cut_before, cut_after}
use Rattle.query.specs.Order.{Cell, cell_before}
use Rattle.query.specs.Search.{cell_of, cells_after}
use Rattle.query.proofs.Split.{parts, split_point}

-- the axis and the line of a cell's cut, and its parts
abbrev pub axis_of : Grid → Cell → Axis
axis_of G c = (cut_line G c.rect).axis

abbrev pub line_of : Grid → Cell → ℤ
line_of G c = (cut_line G c.rect).at

abbrev pub first_of : Grid → Cell → Rect
first_of G c = cut_before (axis_of G c) (line_of G c) c.rect

abbrev pub second_of : Grid → Cell → Rect
second_of G c = cut_after (axis_of G c) (line_of G c) c.rect

-- p is in one of some cells
abbrev pub Within : Place → List Cell → Type 0
Within p cells = (c : Cell) × Memᴰ c cells × In c.rect p

module _ (R : Rules) (c : Cell) (others : List Cell) where
  pub after_is : cells_after R c others ≡ insert_by cell_before (cell_of R (first_of R.grid c)) (insert_by cell_before (cell_of R (second_of R.grid c)) others)
  unfolding cells_after
  after_is = refl

  pub after_cases : (d : Cell) → Memᴰ d (cells_after R c others) →
      (d ≡ cell_of R (first_of R.grid c)) ⊎ ((d ≡ cell_of R (second_of R.grid c)) ⊎ Memᴰ d others)
  unfolding cells_after
  after_cases d m = ⊎_elim inl (λ n. inr (insert_by_cases cell_before (cell_of R (second_of R.grid c)) others n))
      (insert_by_cases cell_before (cell_of R (first_of R.grid c)) (insert_by cell_before (cell_of R (second_of R.grid c)) others) m)

  -- a point of the cells before is in one of the cells after
  pub after_within : (p : Place) → Within p (c ∷ others) → Within p (cells_after R c others)
  unfolding cells_after
  after_within p w = from w.0 w.1 w.2
    where
      behind : (d : Cell) → Memᴰ d (insert_by cell_before (cell_of R (second_of R.grid c)) others) → Memᴰ d (cells_after R c others)
      behind d m = insert_by_old cell_before (cell_of R (first_of R.grid c)) (insert_by cell_before (cell_of R (second_of R.grid c)) others) m

      in_part : In (first_of R.grid c) p ⊎ In (second_of R.grid c) p → Within p (cells_after R c others)
      in_part (inl k) = (
        cell_of R (first_of R.grid c),
        insert_by_new cell_before (cell_of R (first_of R.grid c)) (insert_by cell_before (cell_of R (second_of R.grid c)) others),
        k,
      )
      in_part (inr k) = (
        cell_of R (second_of R.grid c),
        behind (cell_of R (second_of R.grid c)) (insert_by_new cell_before (cell_of R (second_of R.grid c)) others),
        k,
      )

      from : (d : Cell) → Memᴰ d (c ∷ others) → In d.rect p → Within p (cells_after R c others)
      from d (Memᴰ.head e) k = in_part (split_point (axis_of R.grid c) (line_of R.grid c) c.rect (first_of R.grid c) (second_of R.grid c)
          (parts (axis_of R.grid c) (line_of R.grid c) c.rect) p (subst (λ (d : Cell). In d.rect p) e k))
      from d (Memᴰ.tail m) k = (d, behind d (insert_by_old cell_before (cell_of R (second_of R.grid c)) others m), k)
