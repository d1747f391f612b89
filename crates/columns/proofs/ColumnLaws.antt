-- Objects in columns: how long the array is, each of its rows, and the objects in its first rows.
use mathlib.Core.Path.{◌≡◌, refl, sym, ap, ◌∙◌}
use mathlib.Core.List.{List, [], ◌∷◌, ◌++◌, map}
use Prim.Native.Nat.{ℕ, zero, suc, ◌+◌, ◌≤◌, ◌<◌}
use native.Mathlib.Numerals.{add-one}
use native.Mathlib.Omega.{arith}
use lib.IntN.{ℤ, pos, nat_abs}
use lib.ListN.{length, get_or, take, length-append, length-map, get_or-append, get_or-map}
use lib.Seq.{get_or-append-add, take-suc, take-length}
use Rattle.numbers.proofs.Padded.{padded_length, padded_at}
use Rattle.query.specs.Range.{stops_limit}
use Rattle.columns.specs.Objects.{Object, Pricing}
use Rattle.columns.specs.ObjectColumns.{column, object_columns, columns_of, object_at, objects_in, axis_in}
use Rattle.columns.specs.Columns.{y_column, visits_column, near_column, x_cost_place, y_cost_place, columns_size}

-- ---- the first rows of any columns
pub objects_in_none : (columns : List ℤ) → objects_in columns 0 ≡ []
unfolding objects_in
objects_in_none columns = refl

pub objects_in_more : (columns : List ℤ) (i : ℕ) → objects_in columns (i + 1) ≡ objects_in columns i ++ object_at columns i ∷ []
unfolding objects_in
objects_in_more columns i = rw (add-one i)

pub objects_in_length : (columns : List ℤ) (n : ℕ) → length (objects_in columns n) ≡ n
unfolding objects_in
objects_in_length columns zero = refl
objects_in_length columns (suc n) = omega (arith, length-append (objects_in columns n) (object_at columns n ∷ []), objects_in_length columns n)

-- ---- four columns, one after another
behind : (xs ys : List ℤ) (n i : ℕ) → length xs ≡ n → get_or (xs ++ ys) (n + i) (pos 0) ≡ get_or ys i (pos 0)
behind xs ys n i e = rw (← e) (get_or-append-add xs ys i (pos 0))

module _ (a b c d : List ℤ) (ea : length a ≡ stops_limit) (eb : length b ≡ stops_limit) (ec : length c ≡ stops_limit) where
  two : length (a ++ b) ≡ visits_column
  two = omega (arith, length-append a b)

  three : length (a ++ b ++ c) ≡ near_column
  three = omega (arith, length-append (a ++ b) c, two)

  first_row : (i : ℕ) → i < stops_limit → get_or (a ++ b ++ c ++ d) i (pos 0) ≡ get_or a i (pos 0)
  first_row i h =
      get_or-append (a ++ b ++ c) d (pos 0) i (omega (arith, three)) ∙ get_or-append (a ++ b) c (pos 0) i (omega (arith, two))
      ∙ get_or-append a b (pos 0) i (omega arith)

  second_row : (i : ℕ) → i < stops_limit → get_or (a ++ b ++ c ++ d) (y_column + i) (pos 0) ≡ get_or b i (pos 0)
  second_row i h =
      get_or-append (a ++ b ++ c) d (pos 0) (y_column + i) (omega (arith, three)) ∙ get_or-append (a ++ b) c (pos 0) (y_column + i) (omega (arith, two))
      ∙ behind a b stops_limit i ea

  third_row : (i : ℕ) → i < stops_limit → get_or (a ++ b ++ c ++ d) (visits_column + i) (pos 0) ≡ get_or c i (pos 0)
  third_row i h = get_or-append (a ++ b ++ c) d (pos 0) (visits_column + i) (omega (arith, three)) ∙ behind (a ++ b) c visits_column i two

  fourth_row : (i : ℕ) → get_or (a ++ b ++ c ++ d) (near_column + i) (pos 0) ≡ get_or d i (pos 0)
  fourth_row i = behind (a ++ b ++ c) d near_column i three

-- ---- the columns of some objects
abbrev pub nothing : Object
nothing = record { at = record { x = pos 0; y = pos 0 }; visits = 0; near = 0 }

module _ (objects : List Object) (few : length objects ≤ stops_limit) where
  pub column_length : (number : Object → ℤ) → length (column number objects) ≡ stops_limit
  unfolding column
  column_length number = padded_length stops_limit (pos 0) (map number objects) (omega (arith, length-map objects number))

  abbrev x : List ℤ
  x = column (λ s. s.at.x) objects

  abbrev y : List ℤ
  y = column (λ s. s.at.y) objects

  abbrev visits : List ℤ
  visits = column (λ s. pos s.visits) objects

  abbrev near : List ℤ
  near = column (λ s. pos s.near) objects

  columns_are : object_columns objects ≡ x ++ y ++ visits ++ near
  unfolding object_columns
  columns_are = refl

  pub columns_length : length (object_columns objects) ≡ x_cost_place
  columns_length =
      rw columns_are
      (omega (
        arith,
        length-append (x ++ y ++ visits) near,
        three x y visits near (column_length _) (column_length _) (column_length _),
        column_length (λ s. pos s.near),
      ))

  -- each row, by column
  module _ (i : ℕ) (h : i < stops_limit) where
    x_of : get_or (object_columns objects) i (pos 0) ≡ get_or x i (pos 0)
    x_of = rw columns_are (first_row x y visits near (column_length _) (column_length _) (column_length _) i h)

    y_of : get_or (object_columns objects) (y_column + i) (pos 0) ≡ get_or y i (pos 0)
    y_of = rw columns_are (second_row x y visits near (column_length _) (column_length _) (column_length _) i h)

    visits_of : get_or (object_columns objects) (visits_column + i) (pos 0) ≡ get_or visits i (pos 0)
    visits_of = rw columns_are (third_row x y visits near (column_length _) (column_length _) (column_length _) i h)

    near_of : get_or (object_columns objects) (near_column + i) (pos 0) ≡ get_or near i (pos 0)
    near_of = rw columns_are (fourth_row x y visits near (column_length _) (column_length _) (column_length _) i)

  -- object i in its columns
  number_at : (number : Object → ℤ) → number nothing ≡ pos 0 → (i : ℕ) → i < length objects →
      get_or (column number objects) i (pos 0) ≡ number (get_or objects i nothing)
  unfolding column
  number_at number e i h =
      padded_at stops_limit (pos 0) (map number objects) i (omega (arith, length-map objects number))
      ∙ ap (get_or (map number objects) i) (sym e) ∙ get_or-map number objects i nothing

-- ---- what pricing needs in one array
module _ (P : Pricing) (few : length P.objects ≤ stops_limit) where
  abbrev costs : List ℤ
  costs = pos P.axis.a ∷ pos P.axis.b ∷ []

  whole : columns_of P ≡ object_columns P.objects ++ costs
  unfolding columns_of
  whole = refl

  pub pricing_length : length (columns_of P) ≡ columns_size
  pricing_length = rw whole (omega (arith, length-append (object_columns P.objects) costs, columns_length P.objects few))

  before_costs : (i : ℕ) → i < x_cost_place → get_or (columns_of P) i (pos 0) ≡ get_or (object_columns P.objects) i (pos 0)
  before_costs i h = rw whole (get_or-append (object_columns P.objects) costs (pos 0) i (omega (arith, columns_length P.objects few)))

  pub x_cost_at : get_or (columns_of P) x_cost_place (pos 0) ≡ pos P.axis.a
  x_cost_at = rw whole (behind (object_columns P.objects) costs x_cost_place 0 (columns_length P.objects few))

  pub y_cost_at : get_or (columns_of P) y_cost_place (pos 0) ≡ pos P.axis.b
  y_cost_at = rw whole (behind (object_columns P.objects) costs x_cost_place 1 (columns_length P.objects few))

  module _ (i : ℕ) (h : i < stops_limit) where
    pub x_row : get_or (columns_of P) i (pos 0) ≡ get_or (column (λ s. s.at.x) P.objects) i (pos 0)
    x_row = before_costs i (omega arith) ∙ x_of P.objects few i h

    pub y_row : get_or (columns_of P) (y_column + i) (pos 0) ≡ get_or (column (λ s. s.at.y) P.objects) i (pos 0)
    y_row = before_costs (y_column + i) (omega arith) ∙ y_of P.objects few i h

    pub visits_row : get_or (columns_of P) (visits_column + i) (pos 0) ≡ get_or (column (λ s. pos s.visits) P.objects) i (pos 0)
    visits_row = before_costs (visits_column + i) (omega arith) ∙ visits_of P.objects few i h

    pub near_row : get_or (columns_of P) (near_column + i) (pos 0) ≡ get_or (column (λ s. pos s.near) P.objects) i (pos 0)
    near_row = before_costs (near_column + i) (omega arith) ∙ near_of P.objects few i h

  -- row i is object i
  pub row_object : (i : ℕ) → i < length P.objects → object_at (columns_of P) i ≡ get_or P.objects i nothing
  row_object i h =
      let l : i < stops_limit = omega arith in
      rw (
        x_row i l,
        y_row i l,
        visits_row i l,
        near_row i l,
        number_at P.objects few (λ s. s.at.x) refl i h,
        number_at P.objects few (λ s. s.at.y) refl i h,
        number_at P.objects few (λ s. pos s.visits) refl i h,
        number_at P.objects few (λ s. pos s.near) refl i h,
      )

  columns_front : (n : ℕ) → n ≤ length P.objects → objects_in (columns_of P) n ≡ take n P.objects
  unfolding objects_in
  columns_front zero h = refl
  columns_front (suc n) h = rw (columns_front n (omega arith), row_object n (omega arith)) (sym (take-suc P.objects n nothing (omega arith)))

  pub columns_objects : objects_in (columns_of P) (length P.objects) ≡ P.objects
  columns_objects = columns_front (length P.objects) (omega arith) ∙ take-length P.objects

  pub columns_axis : axis_in (columns_of P) ≡ P.axis
  columns_axis = λ i. record { a = nat_abs (x_cost_at i); b = nat_abs (y_cost_at i) }
