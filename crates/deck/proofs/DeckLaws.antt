-- The deck that a record holds: its posts and stops in number and in range; and the record that holds a deck.
use mathlib.Core.Path.{◌≡◌, refl, ap, subst, ◌∙◌}
use mathlib.Core.List.{List, [], ◌∷◌, map, map-map, Memᴰ}
use Prim.Native.Nat.{ℕ, zero, suc, ◌≤◌, ◌<◌, min}
use native.Mathlib.Omega.{arith}
use lib.ListN.{length, get_or, take, length-take, length-map, get_or-map}
use lib.Seq.{length-take-le, get_or-take}
use Rattle.numbers.specs.Padded.{padded}
use Rattle.numbers.proofs.Padded.{padded_front}
use Rattle.query.specs.Deck as Query
use Rattle.query.specs.Range.{InRange, PlaceInRange, StopInRange, visits_limit, posts_limit, stops_limit}
use Rattle.deck.specs.declared.Deck.{Deck}
use Rattle.deck.specs.declared.Place.{Place}
use Rattle.deck.specs.declared.Stop.{Stop}
use Rattle.deck.specs.Values.{held_axis, place_of, place_record, stop_of, stop_record, no_place, no_stop}
use Rattle.deck.specs.DeckOf.{Sized, deck_of, deck_record}
use Rattle.deck.specs.Ranges.{CostsInRange, PostsInRange, StopsInRange, StopPlacesInRange, VisitsInRange, NearsInRange}

-- ---- lists
pub map_take : {A B : Type 0} (f : A → B) (n : ℕ) (l : List A) → map f (take n l) ≡ take n (map f l)
map_take f zero l = refl
map_take f (suc n) [] = refl
map_take f (suc n) (x ∷ xs) = ap (λ r. f x ∷ r) (map_take f n xs)

pub member_at : {A : Type 0} (z : A) (xs : List A) (i : ℕ) → i < length xs → Memᴰ (get_or xs i z) xs
member_at z [] i h = absurd (omega arith)
member_at z (x ∷ xs) zero h = Memᴰ.head refl
member_at z (x ∷ xs) (suc i) h = Memᴰ.tail (member_at z xs i (omega arith))

-- a list at the front of an array
pub front_map : {A B : Type 0} (n : ℕ) (z : B) (f : A → B) (xs : List A) → take (length xs) (padded n z (map f xs)) ≡ map f xs
front_map n z f xs = rw (← length-map xs f) (padded_front n z (map f xs))

list_front : {A B : Type 0} (n : ℕ) (z : B) (f : A → B) (g : B → A) → ((a : A) → g (f a) ≡ a) → (xs : List A) →
    map g (take (length xs) (padded n z (map f xs))) ≡ xs
list_front {A} n z f g back xs =
    ap (map g) (front_map n z f xs) ∙ map-map g f xs ∙ all_back xs
  where
    all_back : (xs : List A) → map (λ a. g (f a)) xs ≡ xs
    all_back [] = refl
    all_back (x ∷ xs) = rw (back x) (ap (λ (l : List A). x ∷ l) (all_back xs))

-- ---- a record whose counts are no more than its arrays
pub record Listed (deck : Deck) : Type 0 where
  pub sized : Sized deck
  pub posts : deck.post_count ≤ posts_limit
  pub stops : deck.stop_count ≤ stops_limit

-- how many posts and stops a record holds
module _ (deck : Deck) (sized : Sized deck) where
  pub posts_counted : length (deck_of deck).posts ≡ min deck.post_count posts_limit
  unfolding deck_of
  posts_counted =
      omega (arith, length-map (take deck.post_count deck.posts) place_of, length-take deck.post_count deck.posts, sized.posts)

  pub stops_counted : length (deck_of deck).stops ≡ min deck.stop_count stops_limit
  unfolding deck_of
  stops_counted =
      omega (arith, length-map (take deck.stop_count deck.stops) stop_of, length-take deck.stop_count deck.stops, sized.stops)

module _ (deck : Deck) (range : InRange (deck_of deck)) where
  pub costs_range : CostsInRange (held_axis deck.axis)
  unfolding deck_of
  costs_range = record { some = range.axis_some; most = range.axis_most }

  pub posts_range : PostsInRange (take deck.post_count deck.posts)
  unfolding deck_of
  posts_range = record {
    few = omega (arith, length-map (take deck.post_count deck.posts) place_of, range.most_posts);
    each = range.posts;
  }

  pub stops_range : StopsInRange (take deck.stop_count deck.stops)
  unfolding deck_of
  stops_range = record {
    few = omega (arith, length-map (take deck.stop_count deck.stops) stop_of, range.most_stops);
    each = range.stops;
  }

-- ---- posts and stops in range, by index
mapped_at : {A B : Type 0} (f : A → B) (z : A) (xs : List A) (i : ℕ) → i < length xs → Memᴰ (f (get_or xs i z)) (map f xs)
mapped_at f z xs i h =
    subst (λ b. Memᴰ b (map f xs)) (get_or-map f xs i z) (member_at (f z) (map f xs) i (omega (arith, length-map xs f)))

pub post_in_range : {posts : List Place} → PostsInRange posts → (i : ℕ) (z : Place) → i < length posts → PlaceInRange (place_of (get_or posts i z))
post_in_range {posts} range i z h = range.each (place_of (get_or posts i z)) (mapped_at place_of z posts i h)

pub stop_in_range : {stops : List Stop} → StopsInRange stops → (i : ℕ) (z : Stop) → i < length stops → StopInRange (stop_of (get_or stops i z))
stop_in_range {stops} range i z h = range.each (stop_of (get_or stops i z)) (mapped_at stop_of z stops i h)

pub stop_place_in_range : {stops : List Stop} → StopPlacesInRange stops → (i : ℕ) (z : Stop) → i < length stops →
    PlaceInRange (stop_of (get_or stops i z)).at
stop_place_in_range {stops} range i z h = range.each (stop_of (get_or stops i z)) (mapped_at stop_of z stops i h)

pub visits_in_range : {stops : List Stop} → VisitsInRange stops → (i : ℕ) (z : Stop) → i < length stops → (get_or stops i z).visits ≤ visits_limit
visits_in_range {stops} range i z h = range.each (stop_of (get_or stops i z)) (mapped_at stop_of z stops i h)

pub places_of_stops : {stops : List Stop} → StopsInRange stops → StopPlacesInRange stops
places_of_stops range = record { few = range.few; each = λ s m. (range.each s m).place }

pub visits_of_stops : {stops : List Stop} → StopsInRange stops → VisitsInRange stops
visits_of_stops range = record { few = range.few; each = λ s m. (range.each s m).most_visits }

-- near of the stops, without what stands behind
pub nears_front : {nears : List ℕ} {n k : ℕ} → k ≤ n → NearsInRange nears n → NearsInRange (take n nears) k
nears_front {nears} {n} {k} few range = record {
  count = omega (arith, length-take-le n nears range.count);
  range = λ i h. rw (get_or-take n nears i 0 (omega arith)) (range.range i (omega arith));
}

-- ---- the record of a deck holds it
pub held_deck : (deck : Query.Deck) → deck_of (deck_record deck) ≡ deck
unfolding deck_of deck_record
held_deck deck = λ i. record {
  axis = deck.axis;
  area = deck.area;
  posts = list_front posts_limit no_place place_record place_of (λ p. refl) deck.posts i;
  stops = list_front stops_limit no_stop stop_record stop_of (λ s. refl) deck.stops i;
}
