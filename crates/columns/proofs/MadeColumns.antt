-- The columns of objects as they are made, one behind another: x and y scaled, and behind them visits and near.
use mathlib.Core.Path.{◌≡◌, refl, sym, ap, ◌∙◌}
use mathlib.Core.List.{List, [], ◌∷◌, ◌++◌, map, append_assoc}
use Prim.Native.Nat.{ℕ, ◌+◌, ◌-◌, ◌*◌, ◌≤◌}
use native.Mathlib.Omega.{arith}
use lib.IntN.{ℤ, pos}
use lib.ListN.{length, take, drop, set, replicate, length-append, length-map, length-take}
use lib.Seq.{paste, set_at, take-append-le, take_all, drop_at, length-take-le}
use borrow.Rule.Slice.PartMut.{put_mid}
use Rattle.std.proofs.lemmas.Slice.{put_mid-paste}
use Rattle.numbers.specs.Integer.{times}
use Rattle.numbers.specs.Padded.{padded}
use Rattle.numbers.proofs.Padded.{padded_length, padded_front}
use Rattle.query.specs.Deck.{AxisCosts, Stop}
use Rattle.query.specs.Range.{stops_limit}
use Rattle.columns.specs.Objects.{stored_objects, stored_pricing}
use Rattle.columns.specs.ObjectColumns.{object_columns, columns_of}
use Rattle.columns.specs.Columns.{y_column, visits_column, near_column, x_cost_place, y_cost_place, columns_size}
use Rattle.columns.proofs.CopyLaws.{put_column}
use Rattle.columns.proofs.ColumnLaws.{columns_length}
use Rattle.columns.proofs.StoredLaws.{stored_count, stored_columns}

-- two numbers put behind others, where 0 was
costs_put : (xs : List ℤ) (u v : ℤ) → length xs ≡ x_cost_place → set (set (xs ++ replicate 2 (pos 0)) x_cost_place u) y_cost_place v ≡ xs ++ (u ∷ v ∷ [])
costs_put xs u v e = rw (set_at xs (pos 0) (pos 0 ∷ []) u x_cost_place e) (
    ap (λ (l : List ℤ). set l y_cost_place v) (sym (append_assoc xs (u ∷ []) (pos 0 ∷ [])))
    ∙ set_at (xs ++ (u ∷ [])) (pos 0) [] v y_cost_place (omega (arith, length-append xs (u ∷ [])))
    ∙ append_assoc xs (u ∷ []) (v ∷ []))

-- ---- columns of n numbers, one behind another
module _ (n : ℕ) (few : n ≤ stops_limit) where
  abbrev pub padded_column : List ℤ → List ℤ
  padded_column xs = padded stops_limit (pos 0) (take n xs)

  pub column_long : (xs : List ℤ) → length (padded_column xs) ≡ stops_limit
  column_long xs = padded_length stops_limit (pos 0) (take n xs) (omega (arith, length-take n xs))

  column_front : (xs : List ℤ) → n ≤ length xs → take n (padded_column xs) ≡ take n xs
  column_front xs h = ap (λ (m : ℕ). take m (padded_column xs)) (sym (length-take-le n xs h)) ∙ padded_front stops_limit (pos 0) (take n xs)

  -- those of x and y
  module _ (us ws : List ℤ) {a b : List ℤ} (x : n ≤ length us) (y : n ≤ length ws) (ea : a ≡ paste (replicate columns_size (pos 0)) 0 us n)
      (eb : b ≡ paste a y_column ws n) where
    pub places_put : b ≡ padded_column us ++ padded_column ws ++ replicate (2 * stops_limit + 2) (pos 0)
    places_put = eb ∙ ap (λ (l : List ℤ). paste l y_column ws n) (ea ∙ put_column [] 0 (3 * stops_limit + 2) n us refl few x)
        ∙ put_column (padded_column us) y_column (2 * stops_limit + 2) n ws (column_long us) few y

    pub two_columns : length (padded_column us ++ padded_column ws) ≡ visits_column
    two_columns = omega (arith, length-append (padded_column us) (padded_column ws), column_long us, column_long ws)

    pub x_front : take n b ≡ take n us
    x_front = rw places_put
        (take-append-le n (padded_column us ++ padded_column ws) _ (omega (arith, two_columns))
        ∙ take-append-le n (padded_column us) (padded_column ws) (omega (arith, column_long us)) ∙ column_front us x)

    pub y_front : take n (drop y_column b) ≡ take n ws
    y_front =
        rw (
          places_put,
          append_assoc (padded_column us) (padded_column ws) (replicate (2 * stops_limit + 2) (pos 0)),
          drop_at (padded_column us) (padded_column ws ++ replicate (2 * stops_limit + 2) (pos 0)) y_column (column_long us),
        )
        (take-append-le n (padded_column ws) _ (omega (arith, column_long ws)) ∙ column_front ws y)

-- ---- parts of an array that were filled
pub part_put : (at n : ℕ) (d xs : List ℤ) {part : List ℤ} → part ≡ xs → length xs ≡ n → put_mid at (at + n - at) d part ≡ paste d at xs n
part_put at n d xs {part} e h = put_mid-paste at (at + n - at) d part xs n e (omega arith) (omega (arith, h))

-- n numbers at the front, and n more behind the first column
pub placed : (n : ℕ) (d us ws : List ℤ) {u w : List ℤ} → u ≡ us → w ≡ ws → length us ≡ n → length ws ≡ n →
    put_mid y_column (y_column + n - y_column) (u ++ drop n d) w ≡ paste (paste d 0 us n) y_column ws n
placed n d us ws {u} eu ew lu lw =
    part_put y_column n (u ++ drop n d) ws ew lw
    ∙ ap (λ (l : List ℤ). paste l y_column ws n) (ap (λ (l : List ℤ). l ++ drop n d) (eu ∙ sym (take_all n us (omega (arith, lu))))
    ∙ ap (λ (m : ℕ). take n us ++ drop m d) at)
  where
    at : n ≡ 0 + n
    at = omega arith

-- ---- all columns
module _ (axis : AxisCosts) (stops : List Stop) (nears : List ℕ) {n : ℕ} (stops-count : length stops ≡ n) (nears-count : length nears ≡ n)
    (few : n ≤ stops_limit) where
  abbrev us : List ℤ
  us = map (λ s. times axis.a s.at.x) stops

  abbrev ws : List ℤ
  ws = map (λ s. times axis.b s.at.y) stops

  abbrev vs : List ℤ
  vs = map (λ s. pos s.visits) stops

  counted : (f : Stop → ℤ) → n ≤ length (map f stops)
  counted f = omega (arith, length-map stops f, stops-count)

  near_count : length (map pos nears) ≡ n
  near_count = omega (arith, length-map {B = ℤ} nears pos, nears-count)

  all : (f : Stop → ℤ) → take n (map f stops) ≡ map f stops
  all f = take_all n (map f stops) (omega (arith, length-map stops f, stops-count))

  module _ {b v m : List ℤ} (eb : b ≡ paste (paste (replicate columns_size (pos 0)) 0 us n) y_column ws n) (ev : v ≡ vs) (em : m ≡ map pos nears) where
    -- the columns with visits in them, and those with near too
    abbrev c : List ℤ
    c = put_mid visits_column (visits_column + n - visits_column) b v

    abbrev d : List ℤ
    d = put_mid near_column (near_column + n - near_column) c m

    abbrev x : List ℤ
    x = padded_column n few us

    abbrev y : List ℤ
    y = padded_column n few ws

    abbrev w : List ℤ
    w = padded_column n few vs

    two : length (x ++ y) ≡ visits_column
    two = two_columns n few us ws (counted _) (counted _) refl eb

    three : length (x ++ y ++ w) ≡ near_column
    three = omega (arith, length-append (x ++ y) w, two, column_long n few vs)

    objects : d ≡ x ++ y ++ w ++ padded_column n few (map pos nears) ++ replicate 2 (pos 0)
    objects =
        part_put near_column n c (map pos nears) em near_count
        ∙ ap (λ (l : List ℤ). paste l near_column (map pos nears) n)
        (part_put visits_column n b vs ev (length-map stops (λ s. pos s.visits) ∙ stops-count)
        ∙ ap (λ (l : List ℤ). paste l visits_column vs n) (places_put n few us ws (counted _) (counted _) refl eb)
        ∙ put_column (x ++ y) visits_column (stops_limit + 2) n vs two few (counted _))
        ∙ put_column (x ++ y ++ w) near_column 2 n (map pos nears) three few (omega (arith, near_count))

    columns_are : d ≡ object_columns (stored_objects axis stops nears) ++ replicate 2 (pos 0)
    columns_are = objects ∙ rw (
      all (λ s. times axis.a s.at.x),
      all (λ s. times axis.b s.at.y),
      all (λ s. pos s.visits),
      take_all n (map pos nears) (omega (arith, near_count)),
      stored_columns axis stops nears (stops-count ∙ sym nears-count),
    ) refl

    -- and the costs behind them
    pub made_columns : {t u : ℤ} → t ≡ pos axis.a → u ≡ pos axis.b →
        set (set d x_cost_place t) y_cost_place u ≡ columns_of (stored_pricing axis stops nears)
    unfolding columns_of
    made_columns et eu =
        let held = stored_objects axis stops nears in
        (λ i. set (set (columns_are i) x_cost_place (et i)) y_cost_place (eu i))
        ∙ costs_put (object_columns held) (pos axis.a) (pos axis.b)
        (columns_length held (omega (arith, stored_count axis stops nears (stops-count ∙ sym nears-count), stops-count, few)))
