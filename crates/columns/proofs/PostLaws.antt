-- Posts at scaled places: how they are scaled, and the closest of them to a place, post after post.
use mathlib.Core.Path.{◌≡◌, refl, sym, ap, ap₂, ◌∙◌}
use mathlib.Core.Bool.{Bool, true, false, cond}
use mathlib.Core.List.{List, [], ◌∷◌, ◌++◌, map}
use Prim.Native.Nat.{ℕ, ◌+◌, ◌≤◌, ◌<◌}
use native.Mathlib.Numerals.{add-one}
use native.Mathlib.Omega.{arith}
use lib.Dec.{ltb}
use lib.IntN.{ℤ, pos, nat_abs}
use lib.ListN.{length, get_or, take, set, replicate, length-map}
use lib.Seq.{length-take-le, take_all, take-suc}
use lib.Signed.{lt_z}
use mir.Syntax.{w32}
use mir.Val.{SFits, to_z, of_z}
use mir.ValLaws.{to_z-of_z}
use Rattle.numbers.specs.Integer.{times}
use Rattle.numbers.specs.Padded.{padded}
use Rattle.numbers.proofs.Joined.{map_at}
use Rattle.numbers.proofs.Padded.{padded_none, padded_length, padded_more, padded_at}
use Rattle.numbers.proofs.Scaling.{scale_most}
use Rattle.query.specs.Place.{Place}
use Rattle.query.specs.Deck.{AxisCosts, plain}
use Rattle.query.specs.Travel.{travel, closest}
use Rattle.query.specs.Range.{PlaceInRange, coordinate_limit, axis_cost_limit, posts_limit}
use Rattle.deck.specs.declared.Place as Code
use Rattle.deck.specs.Values.{place_of, no_place}
use Rattle.deck.specs.Ranges.{CostsInRange, PostsInRange}
use Rattle.deck.proofs.DeckLaws.{post_in_range}
use Rattle.columns.specs.Columns.{places}
use Rattle.columns.specs.Objects.{scaled_place}
use Rattle.columns.specs.Ranges.{scaled_limit, CoordinatesInRange}
use Rattle.columns.proofs.TravelLaws.{far, travel_plain}
use Rattle.columns.proofs.ClosestLaws.{place_at, places_length, closest_one, closest_snoc, posts_more}

-- ---- posts that are scaled one after another, into columns of 0
abbrev pub column_of : (Place → ℤ) → List Code.Place → List ℤ
column_of number posts = map (λ p. number (place_of p)) posts

scaled_front : (axis : AxisCosts) (posts : List Code.Place) (xs ys : List ℤ) →
    take (length posts) (places (column_of (λ p. times axis.a p.x) posts ++ xs) (column_of (λ p. times axis.b p.y) posts ++ ys))
    ≡ map (scaled_place axis) (map place_of posts)
unfolding places
scaled_front axis [] xs ys = refl
scaled_front axis (p ∷ ps) xs ys = ap (λ (l : List Place). scaled_place axis (place_of p) ∷ l) (scaled_front axis ps xs ys)

pub record Scaling (axis : AxisCosts) (posts : List Code.Place) (x y : List ℤ) (j : ℕ) : Type 0 where
  pub count : j ≤ length posts
  pub x_is : x ≡ padded posts_limit (pos 0) (take j (column_of (λ p. times axis.a p.x) posts))
  pub y_is : y ≡ padded posts_limit (pos 0) (take j (column_of (λ p. times axis.b p.y) posts))

module _ {axis : AxisCosts} {posts : List Code.Place} (costs : CostsInRange axis) (range : PostsInRange posts) where
  long : (number : Place → ℤ) → length (column_of number posts) ≡ length posts
  long number = length-map posts (λ p. number (place_of p))

  pub scaling_none : Scaling axis posts (replicate posts_limit (pos 0)) (replicate posts_limit (pos 0)) 0
  scaling_none = record { count = omega arith; x_is = sym (padded_none posts_limit (pos 0)); y_is = sym (padded_none posts_limit (pos 0)) }

  column_more : (number : Place → ℤ) {column : List ℤ} {j : ℕ} {u : ℤ} → j < length posts →
      column ≡ padded posts_limit (pos 0) (take j (column_of number posts)) → u ≡ number (place_of (get_or posts j no_place)) →
      set column j u ≡ padded posts_limit (pos 0) (take (j + 1) (column_of number posts))
  column_more number {column} {j} {u} h e f =
      rw (e, f) (padded_more posts_limit (pos 0) (take j (column_of number posts)) j _ (length-take-le j _ (omega (arith, long number)))
      (omega (arith, range.few))
      ∙ ap (padded posts_limit (pos 0)) (sym (rw (add-one j) (take-suc (column_of number posts) j (pos 0) (omega (arith, long number)))
      ∙ ap (λ (m : ℤ). take j (column_of number posts) ++ (m ∷ [])) (map_at (λ p. number (place_of p)) posts j (pos 0) no_place h))))

  pub scaling_more : {x y : List ℤ} {j : ℕ} {u v : ℤ} → Scaling axis posts x y j → j < length posts →
      u ≡ times axis.a (get_or posts j no_place).x → v ≡ times axis.b (get_or posts j no_place).y →
      Scaling axis posts (set x j u) (set y j v) (j + 1)
  scaling_more so_far h eu ev = record {
    count = omega arith;
    x_is = column_more (λ p. times axis.a p.x) h so_far.x_is eu;
    y_is = column_more (λ p. times axis.b p.y) h so_far.y_is ev;
  }

  -- all of them
  module _ {x y : List ℤ} {j : ℕ} (so_far : Scaling axis posts x y j) (h : length posts ≤ j) where
    whole : (number : Place → ℤ) {column : List ℤ} → column ≡ padded posts_limit (pos 0) (take j (column_of number posts)) →
        column ≡ padded posts_limit (pos 0) (column_of number posts)
    whole number e = e ∙ ap (padded posts_limit (pos 0)) (take_all j (column_of number posts) (omega (arith, long number)))

    column_range : (number : Place → ℤ) {column : List ℤ} → column ≡ padded posts_limit (pos 0) (take j (column_of number posts)) →
        ((p : Place) → PlaceInRange p → nat_abs (number p) ≤ scaled_limit) → CoordinatesInRange column (length posts)
    column_range number e in_range = record {
      count =
          rw (whole number e)
          (omega (arith, padded_length posts_limit (pos 0) (column_of number posts) (omega (arith, long number, range.few)), range.few));
      range = λ i g. rw (
        whole number e,
        padded_at posts_limit (pos 0) (column_of number posts) i (omega (arith, long number)),
        map_at (λ p. number (place_of p)) posts i (pos 0) no_place g,
      ) (in_range _ (post_in_range range i no_place g));
    }

    pub scaled_x : CoordinatesInRange x (length posts)
    scaled_x = column_range (λ p. times axis.a p.x) so_far.x_is
        (λ p r. scale_most axis.a axis_cost_limit coordinate_limit p.x costs.most.0 r.x_range)

    pub scaled_y : CoordinatesInRange y (length posts)
    scaled_y = column_range (λ p. times axis.b p.y) so_far.y_is
        (λ p r. scale_most axis.b axis_cost_limit coordinate_limit p.y costs.most.1 r.y_range)

    pub scaled_posts : take (length posts) (places x y) ≡ map (scaled_place axis) (map place_of posts)
    unfolding padded
    scaled_posts =
        (λ i. take (length posts) (places (whole (λ p. times axis.a p.x) so_far.x_is i) (whole (λ p. times axis.b p.y) so_far.y_is i)))
        ∙ scaled_front axis posts _ _

-- ---- the closest post, post after post, at scaled places
picked : (b : Bool) (m n : ℕ) → cond b (pos m) (pos n) ≡ pos (cond b m n)
picked true m n = refl
picked false m n = refl

module _ {qx qy : List ℤ} {k : ℕ} (gx : CoordinatesInRange qx k) (gy : CoordinatesInRange qy k) (p : Place) where
  far_at : {x y : ℤ} (j : ℕ) → x ≡ get_or qx j (pos 0) → y ≡ get_or qy j (pos 0) → far p.x p.y x y ≡ travel plain p (place_at qx qy j)
  far_at j ex ey = ap₂ (λ (u v : ℤ). far p.x p.y u v) ex ey ∙ sym (travel_plain p (place_at qx qy j))

  pub closest_first : {r x y : ℤ} → 1 ≤ k → x ≡ get_or qx 0 (pos 0) → y ≡ get_or qy 0 (pos 0) → SFits w32 r → r ≡ pos (far p.x p.y x y) →
      to_z w32 (of_z w32 r) ≡ pos (closest plain p (take 1 (places qx qy)))
  closest_first {r} h ex ey fits e =
      to_z-of_z w32 r fits ∙ e ∙ ap pos (far_at 0 ex ey ∙ sym (closest_one plain p (place_at qx qy 0))
      ∙ ap (closest plain p) (sym (posts_more gx gy 0 (omega arith))))

  pub closest_next : {r least x y : ℤ} (j : ℕ) → 1 ≤ j → j < k → least ≡ pos (closest plain p (take j (places qx qy))) →
      x ≡ get_or qx j (pos 0) → y ≡ get_or qy j (pos 0) → SFits w32 r →
      r ≡ cond (lt_z (pos (far p.x p.y x y)) least) (pos (far p.x p.y x y)) least →
      to_z w32 (of_z w32 r) ≡ pos (closest plain p (take (j + 1) (places qx qy)))
  closest_next {r} {least} j g h so_far ex ey fits e =
      let t = travel plain p (place_at qx qy j) in
      let near = closest plain p (take j (places qx qy)) in
      to_z-of_z w32 r fits ∙ e ∙ rw (so_far, far_at j ex ey) (picked (ltb t near) t near)
      ∙ ap pos (sym (closest_snoc plain p (take j (places qx qy)) (place_at qx qy j) some)
      ∙ ap (closest plain p) (sym (posts_more gx gy j h)))
    where
      some : 1 ≤ length (take j (places qx qy))
      some = omega (arith, length-take-le j (places qx qy) (omega (arith, places_length qx qy, gx.count, gy.count)))
