-- A row of the columns, read from words; and one turn of the pass that sets the flags.
use mathlib.Core.Path.{◌≡◌, sym, ap, ◌∙◌}
use mathlib.Core.Bool.{Bool, false}
use mathlib.Core.List.{List, map}
use Prim.Native.Nat.{ℕ, ◌+◌, ◌<◌}
use native.Mathlib.Omega.{arith}
use lib.Dec.{ltb}
use lib.IntN.{ℤ, nat_abs}
use lib.ListN.{set, replicate}
use Rattle.numbers.specs.Padded.{padded}
use Rattle.numbers.proofs.Padded.{padded_none, padded_map}
use Rattle.query.specs.Place.{Rect}
use Rattle.query.specs.Reach.{closest_point}
use Rattle.query.specs.Range.{stops_limit}
use Rattle.columns.specs.Objects.{Object}
use Rattle.columns.specs.ObjectColumns.{object_at, objects_in}
use Rattle.columns.proofs.TravelLaws.{travel_plain}
use Rattle.columns.proofs.ColumnLaws.{objects_in_none, objects_in_more, objects_in_length}
use Rattle.reach.specs.Held.{object_of_row}
use Rattle.reach.specs.declared.objects.Row.{Row}
use Rattle.reach.proofs.ExcessLaws.{away}
use Rattle.reach.proofs.NarrowLaws.{word, number_word, near_word}
use Rattle.reach.proofs.ReachLaws.{travel_to_scaled, reaches_to}

pub travel_away : (r : Rect) (s : Object) → travel_to_scaled r s ≡ away s.at.x s.at.y r.xlo r.ylo r.xhi r.yhi
unfolding closest_point
travel_away r s = travel_plain s.at (closest_point r s.at)

pub reaches_away : (r : Rect) (s : Object) → reaches_to r s ≡ ltb (away s.at.x s.at.y r.xlo r.ylo r.xhi r.yhi) s.near
reaches_away r s = ap (λ (n : ℕ). ltb n s.near) (travel_away r s)

-- a row, of words
module _ (row : Row) where
  pub x_word : word row.x ≡ row.x
  x_word = number_word row.x (omega (arith, row.in_range.place))

  pub y_word : word row.y ≡ row.y
  y_word = number_word row.y (omega (arith, row.in_range.place))

-- the code's test of whether a row reaches a rectangle
abbrev pub reached : Row → Rect → Bool
reached row r = ltb (away (word row.x) (word row.y) r.xlo r.ylo r.xhi r.yhi) (nat_abs (word row.near))

pub row_reaches : (row : Row) (r : Rect) {s : Object} → object_of_row row ≡ s → reached row r ≡ reaches_to r s
row_reaches row r e = rw (x_word row, y_word row, near_word row.in_range) (sym (reaches_away r (object_of_row row)) ∙ ap (reaches_to r) e)

-- ---- which rows reach a rectangle: the flags of the first i rows
pub record Flagged (columns : List ℤ) (r : Rect) (flags : List Bool) (i : ℕ) : Type 0 where
  pub are : flags ≡ padded stops_limit false (map (reaches_to r) (objects_in columns i))

module _ (columns : List ℤ) (r : Rect) where
  pub flagged_none : Flagged columns r (replicate stops_limit false) 0
  flagged_none = record { are = rw (objects_in_none, padded_none) }

  pub flagged_more : {flags : List Bool} {i : ℕ} (v : Bool) → Flagged columns r flags i → i < stops_limit → v ≡ reaches_to r (object_at columns i)
      → Flagged columns r (set flags i v) (i + 1)
  flagged_more {flags} {i} v so_far h e =
      record {
        are =
            rw (e, objects_in_more columns i)
            (padded_map stops_limit false (reaches_to r) (objects_in columns i) (object_at columns i) (omega (arith, objects_in_length columns i)) h
            so_far.are);
      }
