-- The closest of some posts: of one more, and by scaled places.
use mathlib.Core.Path.{◌≡◌, refl, ap}
use mathlib.Core.Bool.{cond}
use mathlib.Core.List.{List, [], ◌∷◌, ◌++◌, zip_with, map, map-map}
use Prim.Native.Nat.{ℕ, zero, suc, ◌+◌, ◌≤◌, ◌<◌, min}
use native.Mathlib.Numerals.{add-one}
use native.Mathlib.Omega.{arith}
use lib.Dec.{ltb}
use lib.IntN.{ℤ, pos}
use lib.ListN.{length, get_or, take}
use lib.Seq.{length-take-le, take-suc}
use Rattle.numbers.specs.Lists.{least_by}
use Rattle.numbers.proofs.Joined.{map_each}
use Rattle.query.specs.Place.{Place}
use Rattle.query.specs.Deck.{AxisCosts, plain}
use Rattle.query.specs.Travel.{travel, closest}
use Rattle.columns.specs.Columns.{places}
use Rattle.columns.specs.Objects.{scaled_place}
use Rattle.columns.specs.Ranges.{CoordinatesInRange, ScaledPlaceInRange}
use Rattle.columns.proofs.TravelLaws.{travel_scaled}

-- ---- two lists side by side
module _ {A B C : Type 0} (f : A → B → C) where
  pub zip_length : (xs : List A) (ys : List B) → length (zip_with f xs ys) ≡ min (length xs) (length ys)
  unfolding zip_with
  zip_length [] ys = omega arith
  zip_length (x ∷ xs) [] = omega arith
  zip_length (x ∷ xs) (y ∷ ys) = omega (arith, zip_length xs ys)

  pub zip_at : (a : A) (b : B) (c : C) (xs : List A) (ys : List B) (i : ℕ) → i < length xs → i < length ys →
      get_or (zip_with f xs ys) i c ≡ f (get_or xs i a) (get_or ys i b)
  unfolding zip_with
  zip_at a b c [] ys i g h = absurd (omega arith)
  zip_at a b c (x ∷ xs) [] i g h = absurd (omega arith)
  zip_at a b c (x ∷ xs) (y ∷ ys) zero g h = refl
  zip_at a b c (x ∷ xs) (y ∷ ys) (suc i) g h = zip_at a b c xs ys i (omega arith) (omega arith)

  pub zip_take : (k : ℕ) (xs : List A) (ys : List B) → take k (zip_with f xs ys) ≡ zip_with f (take k xs) (take k ys)
  unfolding zip_with
  zip_take zero xs ys = refl
  zip_take (suc k) [] ys = refl
  zip_take (suc k) (x ∷ xs) [] = refl
  zip_take (suc k) (x ∷ xs) (y ∷ ys) = ap (λ (l : List C). f x y ∷ l) (zip_take k xs ys)

abbrev pub place_at : List ℤ → List ℤ → ℕ → Place
place_at xs ys i = record { x = get_or xs i (pos 0); y = get_or ys i (pos 0) }

pub places_length : (xs ys : List ℤ) → length (places xs ys) ≡ min (length xs) (length ys)
unfolding places
places_length xs ys = zip_length _ xs ys

pub places_at : (xs ys : List ℤ) (i : ℕ) (d : Place) → i < length xs → i < length ys → get_or (places xs ys) i d ≡ place_at xs ys i
unfolding places
places_at xs ys i d g h = zip_at _ (pos 0) (pos 0) d xs ys i g h

-- the first k places are those of the first k coordinates
pub places_front : (k : ℕ) (us vs xs ys : List ℤ) → take k us ≡ take k xs → take k vs ≡ take k ys → take k (places us vs) ≡ take k (places xs ys)
unfolding places
places_front k us vs xs ys e g = rw (zip_take _ k us vs, zip_take _ k xs ys, e, g)

-- the near of a place
abbrev pub near_by : List ℤ → List ℤ → ℕ → Place → ℤ
near_by px py k p = pos (closest plain p (take k (places px py)))

-- ---- one more post
least_snoc : (x : ℕ) (xs : List ℕ) (y : ℕ) → least_by ltb x (xs ++ y ∷ []) ≡ cond (ltb y (least_by ltb x xs)) y (least_by ltb x xs)
unfolding least_by
least_snoc x [] y = refl
least_snoc x (z ∷ zs) y = least_snoc (cond (ltb z x) z x) zs y

map_snoc : (f : Place → ℕ) (ps : List Place) (q : Place) → map f (ps ++ q ∷ []) ≡ map f ps ++ f q ∷ []
map_snoc f [] q = refl
map_snoc f (p ∷ ps) q = ap (λ (l : List ℕ). f p ∷ l) (map_snoc f ps q)

pub closest_snoc : (axis : AxisCosts) (p : Place) (posts : List Place) (q : Place) → 1 ≤ length posts →
    closest axis p (posts ++ q ∷ []) ≡ cond (ltb (travel axis p q) (closest axis p posts)) (travel axis p q) (closest axis p posts)
unfolding closest
closest_snoc axis p [] q h = absurd (omega arith)
closest_snoc axis p (post ∷ posts) q h = rw (map_snoc (travel axis p) posts q) (least_snoc (travel axis p post) (map (travel axis p) posts) (travel axis p q))

pub closest_one : (axis : AxisCosts) (p q : Place) → closest axis p (q ∷ []) ≡ travel axis p q
unfolding closest least_by
closest_one axis p q = refl

-- by scaled places
pub closest_scaled : (c : AxisCosts) (p : Place) (posts : List Place) → closest c p posts ≡ closest plain (scaled_place c p) (map (scaled_place c) posts)
unfolding closest
closest_scaled c p [] = refl
closest_scaled c p (post ∷ posts) = rw (
  travel_scaled c p post,
  map_each (travel c p) (λ q. travel plain (scaled_place c p) (scaled_place c q)) posts (λ q m. travel_scaled c p q),
  ← map-map (travel plain (scaled_place c p)) (scaled_place c) posts,
)

-- the first posts, one more, and its place
module _ {px py : List ℤ} {k : ℕ} (gx : CoordinatesInRange px k) (gy : CoordinatesInRange py k) where
  posts_count : k ≤ length (places px py)
  posts_count = omega (arith, places_length px py, gx.count, gy.count)

  pub some_posts : 1 ≤ k → 1 ≤ length (take k (places px py))
  some_posts h = omega (arith, length-take-le k (places px py) posts_count)

  pub posts_more : (j : ℕ) → j < k → take (j + 1) (places px py) ≡ take j (places px py) ++ place_at px py j ∷ []
  posts_more j h = rw (
    add-one j,
    take-suc (places px py) j (place_at px py 0) (omega (arith, posts_count)),
    places_at px py j (place_at px py 0) (omega (arith, gx.count)) (omega (arith, gy.count)),
  )

  pub post_range : (j : ℕ) → j < k → ScaledPlaceInRange (get_or px j (pos 0)) (get_or py j (pos 0))
  post_range j h = record { x_range = gx.range j h; y_range = gy.range j h }
