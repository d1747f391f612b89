-- The rows of `specs/NumberRows.antt`, by computation.
use mathlib.Core.Path.{refl}
use Rattle.numbers.specs.Integer.{between, strictly_between, clamp}
use Rattle.numbers.specs.Lists.{least_by, insert_by, insert_once}
use Rattle.numbers.specs.NumberRows.{NumberRows}

pub number_rows : NumberRows
unfolding between strictly_between clamp least_by insert_by insert_once
number_rows = record {
  between_low_edge = refl;
  between_high_edge = refl;
  strictly_low_edge = refl;
  strictly_high_edge = refl;
  clamp_below = refl;
  clamp_inside = refl;
  clamp_above = refl;
  least_is_first = refl;
  insert_behind_equals = refl;
  insert_once_law = refl;
  insert_between = refl;
}
