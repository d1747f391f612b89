-- Near as it is found in columns: of stops at scaled places, by scaled posts.
use mathlib.Core.Path.{◌≡◌, refl, sym, ap, ◌∙◌}
use mathlib.Core.List.{List, [], ◌∷◌, ◌++◌, map, map-map, append_assoc, Memᴰ}
use Prim.Native.Nat.{ℕ, ◌+◌, ◌*◌, ◌≤◌, ◌<◌}
use native.Mathlib.Numerals.{add-one}
use native.Mathlib.Omega.{arith}
use lib.IntN.{ℤ, pos, negsuc, nat_abs}
use lib.ListN.{length, get_or, take, drop, set, replicate, length-append, length-map, length-drop, length-replicate, get_or-map}
use lib.Dec.{T}
use lib.Seq.{paste, length-paste, take_at, take-suc, length-take-le, get_or-take, get_or-drop, drop_at}
use mir.Syntax.{w32}
use mir.Val.{Fits, SFits, to_z, of_z}
use mir.ValLaws.{to_z-of_z}
use lib.Signed.{non_neg, ◌≤ℤ◌}
use Rattle.numbers.specs.Integer.{times}
use Rattle.numbers.specs.Padded.{padded}
use Rattle.numbers.proofs.Integer.{order}
use Rattle.numbers.proofs.Words.{natural_cast}
use Rattle.numbers.proofs.Joined.{map_each, map_at}
use Rattle.numbers.proofs.Members.{each_map, length_non_empty}
use Rattle.numbers.proofs.Padded.{padded_length, padded_more, padded_each}
use Rattle.numbers.proofs.Scaling.{scale_most}
use Rattle.query.specs.Place.{Place}
use Rattle.query.specs.Deck.{AxisCosts, Stop, plain}
use Rattle.query.specs.Travel.{closest}
use Rattle.query.specs.Range.{PlaceInRange, coordinate_limit, axis_cost_limit, stops_limit, travel_limit}
use Rattle.query.proofs.NearLaws.{closest_some}
use Rattle.query.proofs.Ranges.{costs_limit}
use Rattle.deck.specs.Ranges.{CostsInRange}
use Rattle.deck.proofs.DeckLaws.{map_take, member_at}
use Rattle.columns.specs.Objects.{scaled_place}
use Rattle.columns.specs.Ranges.{scaled_limit, CoordinatesInRange, RowsInRange, NearColumn}
use Rattle.columns.specs.StopFigures.{Nears}
use Rattle.columns.specs.Columns.{y_column, near_column, columns_size, places}
use Rattle.columns.proofs.ClosestLaws.{places_front, places_length, closest_scaled}
use Rattle.columns.proofs.MadeColumns.{places_put, two_columns, x_front, y_front}

-- a column with the same first numbers
pub front_range : (us xs : List ℤ) (n : ℕ) → take n us ≡ take n xs → n ≤ length us → CoordinatesInRange xs n → CoordinatesInRange us n
front_range us xs n e h range = record {
  count = h;
  range = λ i l. rw (sym (get_or-take n us i (pos 0) l) ∙ ap (λ (r : List ℤ). get_or r i (pos 0)) e ∙ get_or-take n xs i (pos 0) l) (range.range i l);
}

-- ---- the column of near, row by row
abbrev rows : List ℤ → List ℕ
rows columns = map nat_abs (drop near_column columns)

module _ {columns : List ℤ} {n : ℕ} (held : NearColumn columns n) where
  pub row_natural : (i : ℕ) → i < n → SFits w32 (get_or columns (near_column + i) (pos 0)) →
      T (non_neg (to_z w32 (of_z w32 (get_or columns (near_column + i) (pos 0)))))
      × Fits w32 (nat_abs (to_z w32 (of_z w32 (get_or columns (near_column + i) (pos 0)))))
  row_natural i h fits = go (get_or columns (near_column + i) (pos 0)) (held.some i h) fits
    where
      go : (z : ℤ) → pos 0 ≤ℤ z → SFits w32 z → T (non_neg (to_z w32 (of_z w32 z))) × Fits w32 (nat_abs (to_z w32 (of_z w32 z)))
      go (pos m) l f = natural_cast w32 (pos m) m refl f.sfits
      go (negsuc m) l f = absurd (omega (arith, order))

  pub row_more : (few : n ≤ stops_limit) {near : List ℕ} {i : ℕ} → i < n → SFits w32 (get_or columns (near_column + i) (pos 0)) →
      near ≡ padded stops_limit 0 (take i (rows columns)) →
      set near i (nat_abs (to_z w32 (of_z w32 (get_or columns (near_column + i) (pos 0))))) ≡ padded stops_limit 0 (take (i + 1) (rows columns))
  row_more few {near} {i} h fits e =
      rw (e, to_z-of_z w32 (get_or columns (near_column + i) (pos 0)) fits)
      (padded_more stops_limit 0 (take i (rows columns)) i _ (length-take-le i (rows columns) (omega (arith, long))) (omega arith)
      ∙ ap (padded stops_limit 0) (sym (rw (add-one i) (take-suc (rows columns) i 0 (omega (arith, long)))
      ∙ ap (λ (m : ℕ). take i (rows columns) ++ (m ∷ []))
      (get_or-map nat_abs (drop near_column columns) i (pos 0) ∙ ap nat_abs (get_or-drop near_column columns i (pos 0))))))
    where
      long : length (rows columns) ≡ stops_limit + 2
      long = omega (arith, length-map (drop near_column columns) nat_abs, length-drop near_column columns, held.long)

abbrev nowhere : Stop
nowhere = record { at = record { x = pos 0; y = pos 0 }; visits = 0 }

-- ---- stops by posts, both in range
module _ {axis : AxisCosts} {posts : List Place} {stops : List Stop} (costs : CostsInRange axis) (posts-range : (p : Place) → Memᴰ p posts → PlaceInRange p)
    (stops-range : (s : Stop) → Memᴰ s stops → PlaceInRange s.at) {n : ℕ} (stops-count : length stops ≡ n) (few : n ≤ stops_limit)
    (some : 1 ≤ length posts) where
  abbrev nears : List ℕ
  nears = map (λ s. closest axis s.at posts) stops

  near_limit : (s : Stop) → Memᴰ s stops → closest axis s.at posts ≤ travel_limit
  near_limit s m =
      let (post, i, e) = closest_some axis s.at posts (length_non_empty posts some) in
      omega (arith, e, costs_limit axis costs.most s.at post (stops-range s m) (posts-range post i))

  -- their scaled coordinates
  abbrev us : List ℤ
  us = map (λ s. times axis.a s.at.x) stops

  abbrev ws : List ℤ
  ws = map (λ s. times axis.b s.at.y) stops

  count : (f : Stop → ℤ) → n ≤ length (map f stops)
  count f = omega (arith, length-map stops f, stops-count)

  column_range : (f : Stop → ℤ) → ((s : Stop) → Memᴰ s stops → nat_abs (f s) ≤ scaled_limit) → CoordinatesInRange (map f stops) n
  column_range f range = record {
    count = count f;
    range = λ i h. let l : i < length stops = omega (arith, stops-count) in
        rw (map_at f stops i (pos 0) nowhere l) (range (get_or stops i nowhere) (member_at nowhere stops i l));
  }

  us_range : CoordinatesInRange us n
  us_range = column_range (λ s. times axis.a s.at.x)
      (λ s m. scale_most axis.a axis_cost_limit coordinate_limit s.at.x costs.most.0 (stops-range s m).x_range)

  ws_range : CoordinatesInRange ws n
  ws_range = column_range (λ s. times axis.b s.at.y)
      (λ s m. scale_most axis.b axis_cost_limit coordinate_limit s.at.y costs.most.1 (stops-range s m).y_range)

  scaled_places : (stops : List Stop) → take (length stops) (places (map (λ s. times axis.a s.at.x) stops) (map (λ s. times axis.b s.at.y) stops))
      ≡ map (λ s. scaled_place axis s.at) stops
  unfolding places
  scaled_places [] = refl
  scaled_places (s ∷ ss) = ap (λ (l : List Place). scaled_place axis s.at ∷ l) (scaled_places ss)

  -- ---- the columns that the code makes
  module _ {b : List ℤ} (eb : b ≡ paste (paste (replicate columns_size (pos 0)) 0 us n) y_column ws n) where
    columns_long : length b ≡ columns_size
    columns_long =
        rw (places_put n few us ws (count _) (count _) refl eb)
        (omega (
          arith,
          length-append (padded stops_limit (pos 0) (take n us) ++ padded stops_limit (pos 0) (take n ws)) (replicate (2 * stops_limit + 2) (pos 0)),
          two_columns n few us ws (count _) (count _) refl eb,
          length-replicate (2 * stops_limit + 2) (pos 0),
        ))

    x_same : take n b ≡ take n us
    x_same = x_front n few us ws (count _) (count _) refl eb

    y_same : take n (drop y_column b) ≡ take n ws
    y_same = y_front n few us ws (count _) (count _) refl eb

    -- what `put_nears` asks
    pub stops_copied : RowsInRange b n
    stops_copied = record {
      fit = record { few = few; long = columns_long };
      x = front_range b us n x_same (omega (arith, columns_long, few)) us_range;
      y = front_range (drop y_column b) ws n y_same (omega (arith, length-drop y_column b, columns_long, few)) ws_range;
    }

    -- what it leaves, by posts at their scaled places
    module _ {scaled : List Place} (es : scaled ≡ map (scaled_place axis) posts) {d : List ℤ}
        (ed : d ≡ paste b near_column (map (λ p. pos (closest plain p scaled)) (places b (drop y_column b))) n) where
      abbrev scaled_near : Place → ℤ
      scaled_near p = pos (closest plain p scaled)

      near_scaled : (p : Place) → scaled_near (scaled_place axis p) ≡ pos (closest axis p posts)
      near_scaled p = ap (λ (l : List Place). pos (closest plain (scaled_place axis p) l)) es ∙ ap pos (sym (closest_scaled axis p posts))

      -- row by row
      abbrev found : List ℤ
      found = map scaled_near (places b (drop y_column b))

      rows_at : take n (places b (drop y_column b)) ≡ map (λ s. scaled_place axis s.at) stops
      rows_at = places_front n b (drop y_column b) us ws x_same y_same ∙ (λ i. take (sym stops-count i) (places us ws)) ∙ scaled_places stops

      nears_scaled : take n found ≡ map pos nears
      nears_scaled =
          sym (map_take scaled_near n (places b (drop y_column b)))
          ∙ ap (map scaled_near) rows_at
          ∙ map-map scaled_near (λ s. scaled_place axis s.at) stops
          ∙ map_each (λ s. scaled_near (scaled_place axis s.at)) (λ s. pos (closest axis s.at posts)) stops (λ s m. near_scaled s.at)
          ∙ sym (map-map pos (λ s. closest axis s.at posts) stops)

      found_count : n ≤ length found
      found_count = omega (
        arith,
        length-map (places b (drop y_column b)) scaled_near,
        places_length b (drop y_column b),
        stops_copied.x.count,
        stops_copied.y.count,
      )

      near_rows : take n (drop near_column d) ≡ map pos nears
      near_rows =
          rw (ed, append_assoc (take near_column b) (take n found) (drop (near_column + n) b))
          (ap (take n) (drop_at (take near_column b) _ near_column (length-take-le near_column b (omega (arith, columns_long))))
          ∙ take_at (take n found) _ n (length-take-le n _ found_count)
          ∙ nears_scaled)

      pub near_held : NearColumn d n
      near_held = record { long = long; some = some_near }
        where
          long : length d ≡ columns_size
          long = rw ed (length-paste b near_column found n (omega (arith, columns_long, few)) found_count ∙ columns_long)

          row : (i : ℕ) → i < n → get_or d (near_column + i) (pos 0) ≡ pos (get_or nears i 0)
          row i h = sym (get_or-take n (drop near_column d) i (pos 0) h ∙ get_or-drop near_column d i (pos 0))
              ∙ ap (λ (l : List ℤ). get_or l i (pos 0)) near_rows
              ∙ get_or-map pos nears i 0

          some_near : (i : ℕ) → i < n → pos 0 ≤ℤ get_or d (near_column + i) (pos 0)
          some_near i h = rw (row i h) (omega (arith, order))

      pub made_nears : {r : List ℕ} → r ≡ padded stops_limit 0 (take n (map nat_abs (drop near_column d))) → Nears axis posts stops r
      made_nears {r} e = record {
        are = is;
        range = record {
          count = rw is (omega (arith, padded_length stops_limit 0 nears (omega (arith, nears_count, few)), stops-count, few));
          range = λ i h. rw is (padded_each (λ (m : ℕ). m ≤ travel_limit) 0 (omega arith) stops_limit nears
              (each_map (λ (m : ℕ). m ≤ travel_limit) _ stops near_limit) i);
        };
      }
        where
          nears_count : length nears ≡ n
          nears_count = length-map stops (λ s. closest axis s.at posts) ∙ stops-count

          is : r ≡ padded stops_limit 0 nears
          is = e ∙ ap (padded stops_limit 0) (sym (map_take nat_abs n (drop near_column d))
              ∙ ap (map nat_abs) near_rows ∙ map-map nat_abs pos nears ∙ map_same nears)
            where
              map_same : (l : List ℕ) → map (λ m. nat_abs (pos m)) l ≡ l
              map_same [] = refl
              map_same (m ∷ ms) = ap (λ (l : List ℕ). m ∷ l) (map_same ms)
