-- The ramps of all objects, one object after another: what they come to at a line is the cost there.
use mathlib.Core.Path.{◌≡◌, refl, ap, ◌∙◌}
use mathlib.Core.List.{List}
use mathlib.Core.Logic.{⊎_elim}
use Prim.Native.Nat.{ℕ, ◌+◌, ◌*◌, ◌≤◌, ◌<◌, min}
use native.Mathlib.Omega.{arith}
use lib.IntN.{ℤ, pos, nat_abs}
use lib.Dec.{ltb, ltb→lt, nltb→le}
use lib.ListN.{length, get_or, set, length-set, length-map}
use lib.Seq.{get_or-set_same, get_or-set_other}
use mir.Syntax.{w32}
use mir.Val.{to_z}
use Rattle.numbers.specs.Integer.{times}
use Rattle.numbers.proofs.Truth.{test}
use Rattle.numbers.proofs.Scaling.{scaled_at}
use Rattle.numbers.proofs.WordTests.{back}
use Rattle.query.specs.Place.{Place}
use Rattle.query.specs.Range.{coordinate_limit, stops_limit, axis_cost_limit}
use Rattle.columns.specs.Ranges.{Scaled}
use Rattle.columns.specs.Objects.{Object, scaled_place}
use Rattle.columns.specs.ObjectColumns.{object_at, axis_in, pricing_in}
use Rattle.columns.proofs.TravelLaws.{far, travel_plain}
use Rattle.columns.specs.Columns.{y_column, visits_column, near_column}
use Rattle.lines.specs.LineRecord.{FirstAtLeast}
use Rattle.reach.specs.Columns.{ObjectInRange}
use Rattle.reach.specs.Held.{object_of_row, columns_of_objects, count_of_objects}
use Rattle.reach.specs.declared.objects.Objects.{Objects}
use Rattle.reach.specs.declared.objects.Row.{Row}
use Rattle.reach.proofs.RowLaws.{x_word, y_word}
use Rattle.reach.proofs.NarrowLaws.{word, natural, visits_word, near_word, scaled_by, scaled_small}
use Rattle.pricing.specs.ObjectFigures.{cost_of, before_of}
use Rattle.pricing.proofs.ObjectLaws.{paid_by, paid_now, cost_of_sum, before_of_sum}
use Rattle.pricing.proofs.ColumnLaws.{sum_none, sum_more}
use Rattle.exhaustive.specs.declared.ramp_sums.ObjectRamps.{ObjectRamps}
use Rattle.exhaustive.specs.Ramps.{scaled_lines, ObjectLines, LinesFound, prefix_sum, ObjectSums, ObjectAdded, ObjectsAdded, height_limit, weight_limit}
use Rattle.exhaustive.proofs.Prefixes.{prefix_most}
use Rattle.exhaustive.proofs.ObjectRamps.{sums_more, small_back}

-- a coordinate, widened, and a natural number
abbrev pub widened : ℤ → ℤ
widened z = back (word z)

abbrev pub counted : ℤ → ℕ
counted z = nat_abs (word z)

-- a coordinate that was scaled
pub scaled_wide : {k : ℕ} {r : ℤ} (v : ℤ) → k ≤ axis_cost_limit → nat_abs v ≤ coordinate_limit → Scaled (to_z w32 k) (back v) r → widened r ≡ times k v
scaled_wide {k} v most h e = ap back (scaled_by most v h e) ∙ small_back (times k v) (omega (arith, scaled_small most v h))

-- ---- a row, as the code reads it
module _ (row : Row) where
  pub y_wide : widened row.y ≡ row.y
  y_wide = rw (y_word row) (small_back row.y (omega (arith, row.in_range.place.y_range)))

  pub visits_is : counted row.visits ≡ nat_abs row.visits
  visits_is = ap nat_abs (visits_word row.in_range)

  pub near_is : counted row.near ≡ nat_abs row.near
  near_is = ap nat_abs (near_word row.in_range)

  pub object_range : ObjectInRange (word row.x) (word row.y) (pos (counted row.visits)) (pos (counted row.near))
  object_range =
      let r = row.in_range in
      rw (x_word row, y_word row, visits_is, near_is, ← natural row.visits r.visits_some, ← natural row.near r.near_some) r

-- ---- no object
empty : (xs : List ℕ) (m n : ℕ) → ((k : ℕ) → get_or xs k 0 ≤ 0 * m) → prefix_sum xs n ≡ 0
empty xs m n each = omega (arith, prefix_most xs 0 (λ k. omega (arith, each k)) n)

module _ (columns : List ℤ) where
  pub objects_none : (ls : List ℤ) (v : ℤ) (r : ObjectRamps) → ObjectSums r 0 → ObjectsAdded (pricing_in columns 0) 0 ls v r
  objects_none ls v r sums = record {
    sums = sums;
    cost = λ j h.
        let p : Place = record { x = v; y = get_or ls j (pos 0) } in
        rw (
          cost_of_sum (pricing_in columns 0) p,
          before_of_sum (pricing_in columns 0),
          sum_none (paid_by (scaled_place (axis_in columns) p)) columns,
          sum_none paid_now columns,
          empty r.up.weights weight_limit (j + 1) sums.up_sums.weights_most,
          empty r.up.starts (weight_limit * height_limit) (j + 1) sums.up_sums.starts_most,
          empty r.down.weights weight_limit (j + 1) sums.down_sums.weights_most,
          empty r.down.starts (weight_limit * height_limit) (j + 1) sums.down_sums.starts_most,
        )
        (omega arith);
  }

  -- ---- the object in row i
  module _ (i : ℕ) where
    abbrev x : ℤ
    x = get_or columns i (pos 0)

    abbrev y : ℤ
    y = get_or columns (y_column + i) (pos 0)

    abbrev visits : ℤ
    visits = get_or columns (visits_column + i) (pos 0)

    abbrev near : ℤ
    near = get_or columns (near_column + i) (pos 0)

    cost_more : (p : Place) → let q = scaled_place (axis_in columns) p in
        cost_of (pricing_in columns (i + 1)) p ≡ cost_of (pricing_in columns i) p + nat_abs visits * min (nat_abs near) (far x y q.x q.y)
    cost_more p =
        let q = scaled_place (axis_in columns) p in
        rw (cost_of_sum (pricing_in columns (i + 1)) p, cost_of_sum (pricing_in columns i) p)
        (sum_more (paid_by q) columns i ∙ rw (travel_plain (object_at columns i).at q))

    before_more : before_of (pricing_in columns (i + 1)) ≡ before_of (pricing_in columns i) + nat_abs visits * nat_abs near
    before_more = rw (before_of_sum (pricing_in columns (i + 1)), before_of_sum (pricing_in columns i)) (sum_more paid_now columns i)

-- ---- the first lines that are not below the first i objects
pub record Finding (o : Objects) (ls : List ℤ) (old rows : List ℕ) (i : ℕ) : Type 0 where
  pub long : length rows ≡ stops_limit
  pub first : (j : ℕ) → j < i
      → FirstAtLeast (scaled_lines (axis_in (columns_of_objects o)).b ls) (object_at (columns_of_objects o) j).at.y (get_or rows j 0)
  pub kept : (j : ℕ) → i ≤ j → get_or rows j 0 ≡ get_or old j 0

pub finding_none : (o : Objects) (ls : List ℤ) (rows : List ℕ) → length rows ≡ stops_limit → Finding o ls rows rows 0
finding_none o ls rows e = record { long = e; first = λ i h. absurd (omega arith); kept = λ i h. refl }

module _ (o : Objects) (ls : List ℤ) {old rows : List ℕ} {i : ℕ} (so_far : Finding o ls old rows i) where
  pub finding_more : (row : Row) {b k : ℕ} → i < count_of_objects o → object_of_row row ≡ object_at (columns_of_objects o) i
      → b ≡ (axis_in (columns_of_objects o)).b → FirstAtLeast (scaled_lines b ls) (widened row.y) k → Finding o ls old (set rows i k) (i + 1)
  finding_more row {b} {k} h at e f = record {
    long = length-set rows i k ∙ so_far.long;
    first = λ j l. ⊎_elim (λ u. rw (get_or-set_other rows i j k 0 (λ q. omega (arith, ltb→lt))) (so_far.first j (ltb→lt j i u)))
        (λ u. let q : i ≡ j = omega (arith, nltb→le) in
        rw (← q, get_or-set_same rows i k 0 (omega (arith, so_far.long, o.priceable.count))) (rw (y_wide row, e, ap (λ (s : Object). s.at.y) at) at f))
        (test (ltb j i));
    kept = λ j l. get_or-set_other rows i j k 0 (λ q. omega arith) ∙ so_far.kept j (omega arith);
  }

  pub finding_all : i ≡ count_of_objects o → LinesFound o ls old rows
  finding_all e = record {
    lines = record { long = so_far.long; first = λ j h. so_far.first j (omega arith) };
    kept = λ j h. so_far.kept j (omega arith);
  }

pub first_at : (o : Objects) (ls : List ℤ) {rows : List ℕ} (row : Row) {i b : ℕ} → i < count_of_objects o
    → object_of_row row ≡ object_at (columns_of_objects o) i → b ≡ (axis_in (columns_of_objects o)).b → ObjectLines o ls rows
    → FirstAtLeast (scaled_lines b ls) row.y (get_or rows i 0)
first_at o ls {rows} row {i} h at e all = rw (ap (λ (s : Object). s.at.y) at, e) (all.first i h)

-- ---- one object more
pub objects_more : (columns : List ℤ) (i : ℕ) (ls : List ℤ) (v u : ℤ) (b : ℕ) (row : Row) (old new : ObjectRamps) → object_of_row row ≡ object_at columns i
    → u ≡ times (axis_in columns).a v → b ≡ (axis_in columns).b → ObjectsAdded (pricing_in columns i) i ls v old
    → ObjectAdded (scaled_lines b ls) u row.x row.y (nat_abs row.visits) (nat_abs row.near) old new
    → ObjectsAdded (pricing_in columns (i + 1)) (i + 1) ls v new
objects_more columns i ls v u b row old new at eu eb so_far one = record {
  sums = one.sums i so_far.sums;
  cost = λ j k.
      let p : Place = record { x = v; y = get_or ls j (pos 0) } in
      let read = rw (
        ap (λ (s : Object). s.at.x) at,
        ap (λ (s : Object). s.at.y) at,
        ap (λ (s : Object). s.visits) at,
        ap (λ (s : Object). s.near) at,
        eu,
        eb,
      ) at one in
      let c = (axis_in columns).b in
      let paid = rw (scaled_at c ls j) at (read.added j (omega (arith, length-map ls (times c)))) in
      let past = rw (scaled_at c ls j) at (so_far.cost j k) in
      rw (scaled_at c ls j) (omega (arith, cost_more columns i p, before_more columns i, past, paid));
}

-- at most as many objects as a deck has stops
pub sums_few : {r : ObjectRamps} (m : ℕ) → ObjectSums r m → m ≤ stops_limit → ObjectSums r stops_limit
sums_few m s h = record { up_sums = sums_more m stops_limit s.up_sums h; down_sums = sums_more (2 * m) (2 * stops_limit) s.down_sums (omega arith) }
