-- Near found post by post: the figures before the first post, by one more post, and after the last.
use mathlib.Core.Path.{◌≡◌, refl, sym, ap, ◌∙◌}
use mathlib.Core.Bool.{Bool, true, false, cond}
use mathlib.Core.List.{List, [], ◌∷◌, ◌++◌, zip_with, map}
use Prim.Native.Nat.{ℕ, suc, ◌+◌, ◌≤◌, ◌<◌}
use native.Mathlib.Omega.{arith}
use borrow.Author.Tests.{lt-ltb}
use lib.Dec.{ltb}
use lib.IntN.{ℤ, pos}
use lib.ListN.{length, get_or, take, drop, set, length-map, length-drop, get_or-map}
use lib.Seq.{paste, length-paste, length-take-le, get_or-take, get_or-drop, ext_get_or}
use lib.Signed.{lt_z}
use mir.Syntax.{w32}
use mir.Val.{SFits, to_z, of_z}
use mir.ValLaws.{to_z-of_z}
use Rattle.numbers.proofs.Distance.{dist_most}
use Rattle.numbers.proofs.Joined.{map_each}
use Rattle.query.specs.Place.{Place}
use Rattle.query.specs.Deck.{plain}
use Rattle.query.specs.Travel.{travel, closest}
use Rattle.query.specs.Range.{travel_limit}
use Rattle.columns.specs.Columns.{places}
use Rattle.columns.specs.ClosestSoFar.{closest_so_far, columns_so_far, improved, columns_improved}
use Rattle.columns.specs.Ranges.{RowsInRange}
use Rattle.columns.specs.Ranges.{CoordinatesInRange, ScaledPlaceInRange, ColumnsFit, scaled_limit}
use Rattle.columns.specs.Columns.{y_column, near_column}
use Rattle.columns.proofs.WordLaws.{coordinate}
use Rattle.columns.proofs.TravelLaws.{far, travel_plain, place_word}
use Rattle.columns.proofs.ClosestLaws.{zip_length, zip_at, place_at, places_length, places_at, closest_one, closest_snoc}
use Rattle.columns.proofs.ClosestLaws.{near_by, some_posts, posts_more, post_range}
use Rattle.columns.proofs.CopyLaws.{Copied, copied_more, copied_all, copied_before, copied_next, copied_within, copied_again}

-- ---- one stop
so_far_some : (p : Place) (posts : List Place) → 1 ≤ length posts → closest_so_far posts p ≡ closest plain p posts
unfolding closest_so_far
so_far_some p [] h = absurd (omega arith)
so_far_some p (post ∷ posts) h = refl

so_far_first : (post p : Place) → closest_so_far (post ∷ []) p ≡ far p.x p.y post.x post.y
unfolding closest_so_far
so_far_first post p = closest_one plain p post ∙ travel_plain p post

so_far_more : (post p : Place) (posts : List Place) → ScaledPlaceInRange p.x p.y → ScaledPlaceInRange post.x post.y →
    closest_so_far (posts ++ post ∷ []) p ≡ cond (ltb (travel plain p post) (closest_so_far posts p)) (travel plain p post) (closest_so_far posts p)
unfolding closest_so_far
so_far_more post p [] at new = closest_one plain p post ∙ ap (λ (b : Bool). cond b (travel plain p post) (suc travel_limit)) (sym first)
  where
    first : ltb (travel plain p post) (suc travel_limit) ≡ true
    first = lt-ltb (travel plain p post) (suc travel_limit) (rw travel_plain
        (omega (arith, dist_most scaled_limit p.x post.x at.x_range new.x_range, dist_most scaled_limit p.y post.y at.y_range new.y_range)))
so_far_more post p (q ∷ posts) at new = closest_snoc plain p (q ∷ posts) post (omega arith)

improved_is : (post p : Place) (f : ℤ) →
    improved post p f ≡ cond (lt_z (pos (far p.x p.y post.x post.y)) f) (pos (far p.x p.y post.x post.y)) f
unfolding improved
improved_is post p f = rw (travel_plain p post)

picked : (b : Bool) (m n : ℕ) → cond b (pos m) (pos n) ≡ pos (cond b m n)
picked true m n = refl
picked false m n = refl

improved_so_far : (post p : Place) (posts : List Place) → ScaledPlaceInRange p.x p.y → ScaledPlaceInRange post.x post.y →
    improved post p (pos (closest_so_far posts p)) ≡ pos (closest_so_far (posts ++ post ∷ []) p)
unfolding improved
improved_so_far post p posts at new =
    rw (so_far_more post p posts at new) (picked (ltb (travel plain p post) (closest_so_far posts p)) (travel plain p post) (closest_so_far posts p))

-- ---- stops in columns
abbrev stop : List ℤ → ℕ → Place
stop columns i = place_at columns (drop y_column columns) i

stop_range : {columns : List ℤ} {n : ℕ} → RowsInRange columns n → (i : ℕ) → i < n → ScaledPlaceInRange (stop columns i).x (stop columns i).y
stop_range stops i h = record { x_range = stops.x.range i h; y_range = stops.y.range i h }

-- the figures after some posts, and those improved by one more
abbrev pub figures : List ℤ → List Place → List ℤ
figures columns posts = map (λ p. pos (closest_so_far posts p)) (places columns (drop y_column columns))

abbrev pub better : List ℤ → Place → List ℤ
better columns post = zip_with (improved post) (places columns (drop y_column columns)) (drop near_column columns)

module _ {columns : List ℤ} {n : ℕ} (fit : ColumnsFit columns n) where
  room : near_column + n ≤ length columns
  room = omega (arith, fit.few, fit.long)

  stops_count : n ≤ length (places columns (drop y_column columns))
  stops_count = omega (arith, places_length columns (drop y_column columns), length-drop y_column columns, fit.few, fit.long)

  stops_at : (d : Place) (i : ℕ) → i < n → get_or (places columns (drop y_column columns)) i d ≡ stop columns i
  stops_at d i h =
      places_at columns (drop y_column columns) i d (omega (arith, fit.few, fit.long)) (omega (arith, length-drop y_column columns, fit.few, fit.long))

  figures_count : (posts : List Place) → n ≤ length (figures columns posts)
  figures_count posts = omega (arith, length-map (places columns (drop y_column columns)) (λ p. pos (closest_so_far posts p)), stops_count)

  figures_at : (posts : List Place) (d : Place) (i : ℕ) → i < n →
      get_or (figures columns posts) i (pos (closest_so_far posts d)) ≡ pos (closest_so_far posts (stop columns i))
  figures_at posts d i h =
      get_or-map (λ p. pos (closest_so_far posts p)) (places columns (drop y_column columns)) i d
      ∙ ap (λ (p : Place). pos (closest_so_far posts p)) (stops_at d i h)

  better_count : (post : Place) → n ≤ length (better columns post)
  better_count post = omega (
    arith,
    zip_length (improved post) (places columns (drop y_column columns)) (drop near_column columns),
    stops_count,
    length-drop near_column columns,
    fit.few,
    fit.long,
  )

  better_at : (post : Place) (f z : ℤ) (i : ℕ) → i < n →
      get_or (better columns post) i z ≡ improved post (stop columns i) (get_or columns (near_column + i) f)
  better_at post f z i h =
      zip_at (improved post) (stop columns 0) f z (places columns (drop y_column columns)) (drop near_column columns) i (omega (arith, stops_count))
      (omega (arith, length-drop near_column columns, fit.few, fit.long))
      ∙ rw (stops_at (stop columns 0) i h, get_or-drop near_column columns i f)

  -- whatever is put into the last column, the places stay
  module _ {s to : List ℤ} {i : ℕ} (so_far : Copied columns near_column s n to i) where
    x_kept : (j : ℕ) → j < n → get_or to j (pos 0) ≡ get_or columns j (pos 0)
    x_kept j h = copied_before columns near_column s n so_far (omega (arith, room)) j (pos 0) (omega (arith, fit.few))

    y_kept : (j : ℕ) → j < n → get_or to (y_column + j) (pos 0) ≡ get_or (drop y_column columns) j (pos 0)
    y_kept j h = copied_before columns near_column s n so_far (omega (arith, room)) (y_column + j) (pos 0) (omega (arith, fit.few))
        ∙ sym (get_or-drop y_column columns j (pos 0))

    stop_kept : (j : ℕ) → j < n → stop to j ≡ stop columns j
    stop_kept j h = rw (get_or-drop y_column to j (pos 0), x_kept j h, y_kept j h)

  -- all figures are put
  put : (posts : List Place) → Copied columns near_column (figures columns posts) n (columns_so_far columns n posts) n
  unfolding columns_so_far
  put posts = record { count = omega arith; long = length-paste columns near_column (figures columns posts) n room (figures_count posts); copied = refl }

  so_far_fit : (posts : List Place) → ColumnsFit (columns_so_far columns n posts) n
  so_far_fit posts = record { few = fit.few; long = (put posts).long ∙ fit.long }

  -- figures put over others
  figures_put : (old new : List Place) (s : List ℤ) → n ≤ length s →
      ((d : Place) (i : ℕ) → i < n → get_or s i (pos (closest_so_far new d)) ≡ pos (closest_so_far new (stop columns i))) →
      paste (columns_so_far columns n old) near_column s n ≡ columns_so_far columns n new
  unfolding columns_so_far
  figures_put old new s count rows =
      copied_again columns near_column (figures columns old) s n (omega (arith, room)) (figures_count old)
      ∙ ap (λ (l : List ℤ). take near_column columns ++ l ++ drop (near_column + n) columns) (ext_get_or z _ _ (few ∙ sym few_figures) same)
    where
      d : Place
      d = stop columns 0

      z : ℤ
      z = pos (closest_so_far new d)

      few : length (take n s) ≡ n
      few = length-take-le n s count

      few_figures : length (take n (figures columns new)) ≡ n
      few_figures = length-take-le n (figures columns new) (figures_count new)

      same : (i : ℕ) → i < length (take n s) → get_or (take n s) i z ≡ get_or (take n (figures columns new)) i z
      same i h =
          let l : i < n = omega (arith, few) in
          get_or-take n s i z l ∙ rows d i l ∙ sym (get_or-take n (figures columns new) i z l ∙ figures_at new d i l)

-- ---- the first post, stop by stop
module _ {columns : List ℤ} {n : ℕ} (stops : RowsInRange columns n) (post : Place) {to : List ℤ} {i : ℕ}
    (so_far : Copied columns near_column (figures columns (post ∷ [])) n to i) where
  pub first_row : i < n → ScaledPlaceInRange (to_z w32 (of_z w32 (get_or to i (pos 0)))) (to_z w32 (of_z w32 (get_or to (y_column + i) (pos 0))))
  first_row h = rw (x_kept stops.fit so_far i h, y_kept stops.fit so_far i h) (place_word (stop_range stops i h))

  pub first_more : (r : ℤ) → i < n → SFits w32 r →
      r ≡ pos (far (to_z w32 (of_z w32 (get_or to i (pos 0)))) (to_z w32 (of_z w32 (get_or to (y_column + i) (pos 0)))) post.x post.y) →
      Copied columns near_column (figures columns (post ∷ [])) n (set to (near_column + i) (to_z w32 (of_z w32 r))) (i + 1)
  first_more r h fits e =
      copied_more columns near_column (figures columns (post ∷ [])) n (to_z w32 (of_z w32 r)) (pos (closest_so_far (post ∷ []) (stop columns 0)))
      (room stops.fit) (figures_count stops.fit (post ∷ [])) so_far h
      (to_z-of_z w32 r fits ∙ e ∙ rw (
        x_kept stops.fit so_far i h,
        y_kept stops.fit so_far i h,
        coordinate (get_or columns i (pos 0)) (stops.x.range i h),
        coordinate (get_or (drop y_column columns) i (pos 0)) (stops.y.range i h),
      ) (sym (figures_at stops.fit (post ∷ []) (stop columns 0) i h ∙ ap pos (so_far_first post (stop columns i)))))

-- ---- one more post, stop by stop
module _ {columns : List ℤ} {n : ℕ} (stops : RowsInRange columns n) (post : Place) {to : List ℤ} {i : ℕ}
    (so_far : Copied columns near_column (better columns post) n to i) where
  pub place_row : i < n → ScaledPlaceInRange (to_z w32 (of_z w32 (get_or to i (pos 0)))) (to_z w32 (of_z w32 (get_or to (y_column + i) (pos 0))))
  place_row h = rw (x_kept stops.fit so_far i h, y_kept stops.fit so_far i h) (place_word (stop_range stops i h))

  pub better_more : (r : ℤ) → i < n → SFits w32 r → SFits w32 (get_or to (near_column + i) (pos 0)) →
      let t : ℕ = far (to_z w32 (of_z w32 (get_or to i (pos 0)))) (to_z w32 (of_z w32 (get_or to (y_column + i) (pos 0)))) post.x post.y in
      r ≡ cond (lt_z (pos t) (to_z w32 (of_z w32 (get_or to (near_column + i) (pos 0))))) (pos t) (to_z w32 (of_z w32 (get_or to (near_column + i) (pos 0)))) →
      Copied columns near_column (better columns post) n (set to (near_column + i) (to_z w32 (of_z w32 r))) (i + 1)
  better_more r h fits old e =
      copied_more columns near_column (better columns post) n (to_z w32 (of_z w32 r)) (pos 0) (room stops.fit) (better_count stops.fit post) so_far h
      (to_z-of_z w32 r fits ∙ e ∙ rw (
        to_z-of_z w32 (get_or to (near_column + i) (pos 0)) old,
        copied_next columns near_column (better columns post) n so_far (omega (arith, room stops.fit)) (better_count stops.fit post) (pos 0),
        x_kept stops.fit so_far i h,
        y_kept stops.fit so_far i h,
        coordinate (get_or columns i (pos 0)) (stops.x.range i h),
        coordinate (get_or (drop y_column columns) i (pos 0)) (stops.y.range i h),
        better_at stops.fit post (pos 0) (pos 0) i h,
      ) (sym (improved_is post (stop columns i) (get_or columns (near_column + i) (pos 0)))))

  pub better_all : n ≤ i → to ≡ columns_improved columns n post
  unfolding columns_improved
  better_all h = copied_all columns near_column (better columns post) n so_far h

-- ---- all stops, post by post
module _ {columns : List ℤ} {n : ℕ} (stops : RowsInRange columns n) (posts : List Place) where
  abbrev now : List ℤ
  now = columns_so_far columns n posts

  kept : Copied columns near_column (figures columns posts) n now n
  kept = put stops.fit posts

  pub so_far_ranged : RowsInRange now n
  so_far_ranged = record {
    fit = so_far_fit stops.fit posts;
    x = record { count = omega (arith, kept.long, stops.x.count); range = λ j h. rw (x_kept stops.fit kept j h) (stops.x.range j h) };
    y = record {
      count = omega (arith, length-drop y_column now, room (so_far_fit stops.fit posts));
      range = λ j h. rw (get_or-drop y_column now j (pos 0), y_kept stops.fit kept j h) (stops.y.range j h);
    };
  }

  -- figures after other posts have the same places to start from
  pub so_far_again : (new : List Place) → columns_so_far now n new ≡ columns_so_far columns n new
  unfolding columns_so_far
  so_far_again new =
      figures_put stops.fit posts new (figures now new) (figures_count so_far_ranged.fit new) (λ d i h.
      figures_at so_far_ranged.fit new d i h ∙ ap (λ (p : Place). pos (closest_so_far new p)) (stop_kept stops.fit kept i h))

  pub columns_more : (post : Place) → ScaledPlaceInRange post.x post.y → columns_improved now n post ≡ columns_so_far columns n (posts ++ post ∷ [])
  unfolding columns_improved
  columns_more post new =
      figures_put stops.fit posts (posts ++ post ∷ []) (better now post) (better_count so_far_ranged.fit post) (λ d i h.
      better_at so_far_ranged.fit post (pos (closest_so_far posts d)) (pos (closest_so_far (posts ++ post ∷ []) d)) i h
      ∙ (λ k. improved post (stop_kept stops.fit kept i h k) (figure d i h k))
      ∙ improved_so_far post (stop columns i) posts (stop_range stops i h) new)
    where
      figure : (d : Place) (i : ℕ) → i < n → get_or now (near_column + i) (pos (closest_so_far posts d)) ≡ pos (closest_so_far posts (stop columns i))
      figure d i h =
          copied_within columns near_column (figures columns posts) n kept (omega (arith, room stops.fit)) (figures_count stops.fit posts) i _ h
          ∙ figures_at stops.fit posts d i h

-- after the last post
pub columns_all : (columns : List ℤ) (n : ℕ) (posts : List Place) → 1 ≤ length posts →
    columns_so_far columns n posts ≡ paste columns near_column (map (λ p. pos (closest plain p posts)) (places columns (drop y_column columns))) n
unfolding columns_so_far
columns_all columns n posts h = rw (map_each
    (λ p. pos (closest_so_far posts p)) (λ p. pos (closest plain p posts)) (places columns (drop y_column columns))
    (λ p m. ap pos (so_far_some p posts h)))

-- ---- posts in columns: after the first, after each further one, and after the last
module _ {columns px py : List ℤ} {n k : ℕ} (stops : RowsInRange columns n) (some : 1 ≤ k) (gx : CoordinatesInRange px k) (gy : CoordinatesInRange py k)
    {first : List ℤ} (e : first ≡ columns_so_far columns n (place_at px py 0 ∷ [])) where
  first_is : first ≡ columns_so_far columns n (take 1 (places px py))
  first_is = e ∙ rw (posts_more gx gy 0 some)

  first_ranged : RowsInRange first n
  first_ranged = rw first_is (so_far_ranged stops _)

  pub posts_first : first ≡ columns_so_far first n (take 1 (places px py))
  posts_first = first_is ∙ rw first_is (sym (so_far_again stops _ _))

  module _ {now : List ℤ} (j : ℕ) (so_far : now ≡ columns_so_far first n (take j (places px py))) where
    pub posts_ranged : RowsInRange now n
    posts_ranged = rw so_far (so_far_ranged first_ranged _)

    pub posts_next : {next : List ℤ} → j < k → next ≡ columns_improved now n (place_at px py j) → next ≡ columns_so_far first n (take (j + 1) (places px py))
    posts_next h is = is ∙ rw (so_far, posts_more gx gy j h) (columns_more first_ranged _ _ (post_range gx gy j h))

    pub posts_all : j ≤ k → k ≤ j → now ≡ paste columns near_column (map (near_by px py k) (places columns (drop y_column columns))) n
    posts_all g h =
        let last : j ≡ k = omega arith in
        so_far ∙ rw (first_is, last) (so_far_again stops _ _ ∙ columns_all columns n _ (some_posts gx gy some))
