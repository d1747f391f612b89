-- The records that changes make, as the code puts them together.
use mathlib.Core.Path.{◌≡◌, sym, ap, ◌∙◌}
use mathlib.Core.List.{List, ◌++◌, map}
use Prim.Native.Nat.{ℕ, ◌+◌, ◌-◌, ◌≤◌, ◌<◌}
use native.Mathlib.Numerals.{add-one}
use native.Mathlib.Omega.{arith}
use lib.ListN.{length, take, drop, set, length-take, length-map}
use Rattle.query.specs.Place as Query
use Rattle.query.specs.Travel.{closest}
use Rattle.query.specs.Range.{PlaceInRange, travel_limit}
use Rattle.deck.specs.declared.Deck.{Deck}
use Rattle.deck.specs.declared.Place.{Place}
use Rattle.deck.specs.declared.Stop.{Stop}
use Rattle.deck.specs.DeckOf.{deck_of}
use Rattle.deck.specs.Ranges.{PostsInRange}
use Rattle.deck.specs.Values.{held_axis, place_of, stop_of, no_place, no_stop}
use Rattle.items.specs.Items.{is_same_place, first_place, taken_out_at}
use Rattle.items.proofs.FirstPlace.{removed_is}
use Rattle.items.proofs.Removal.{removed, taken_length}
use Rattle.change.specs.Change.{add_post, remove_post, add_stop}
use Rattle.change.specs.ChangedRecord.{with_post_list, with_stop_list, renewed, altered_record}
use Rattle.near_change.specs.NearChange.{near_with, near_without}
use Rattle.change.proofs.FrontChanges.{FrontWithout, taken_here, front_less, posts_left}
use Rattle.change.proofs.KeptNears.{closest_limit}
use Rattle.change.proofs.UsableExactly.{Usable}

module _ (deck : Deck) where
  pub made_post : (post : Place) {nears : List ℕ} → nears ≡ renewed deck (near_with (held_axis deck.axis) (place_of post)) →
      with_post_list deck (deck.post_count + 1) (set deck.posts deck.post_count post) nears ≡ altered_record (add_post (place_of post)) deck
  unfolding altered_record
  made_post post e = λ i. with_post_list deck (add-one deck.post_count i) (set deck.posts deck.post_count post) (e i)

  pub made_stop : (stop : Stop) {near : ℕ} → near ≡ closest (held_axis deck.axis) (stop_of stop).at (deck_of deck).posts →
      with_stop_list deck (deck.stop_count + 1) (set deck.stops deck.stop_count stop) (set deck.near deck.stop_count near)
      ≡ altered_record (add_stop (stop_of stop)) deck
  unfolding altered_record
  made_stop stop e = λ i. with_stop_list deck (add-one deck.stop_count i) (set deck.stops deck.stop_count stop) (set deck.near deck.stop_count (e i))

-- a post taken out
module _ {deck : Deck} (u : Usable deck) {i : ℕ} (h : i < deck.post_count) {front : List Place}
    (e : FrontWithout deck.post_count i no_place deck.posts front) where
  -- the array, of which the first deck.post_count - 1 count
  abbrev left : List Place
  left = front ++ drop deck.post_count deck.posts

  long : deck.post_count ≤ length deck.posts
  long = omega (arith, u.listed.posts, u.listed.sized.posts)

  post_taken : left ≡ taken_out_at deck.post_count i no_place deck.posts
  post_taken = taken_here deck.posts deck.post_count i no_place h long e

  pub left_range : PostsInRange (take (deck.post_count - 1) left)
  left_range = rw post_taken (posts_left h deck.posts long u.listed.posts u.posts)

  pub left_some : 2 ≤ deck.post_count → 1 ≤ length (take (deck.post_count - 1) left)
  left_some many = rw post_taken (omega (
    arith,
    length-take (deck.post_count - 1) (taken_out_at deck.post_count i no_place deck.posts),
    taken_length deck.posts i deck.post_count no_place h long,
    long,
  ))

  pub left_limit : 2 ≤ deck.post_count → (p : Query.Place) → PlaceInRange p →
      closest (held_axis deck.axis) p (map place_of (take (deck.post_count - 1) left)) ≤ travel_limit
  left_limit many =
      closest_limit u.costs.most (omega (arith, left_some many, length-map (take (deck.post_count - 1) left) place_of)) left_range.each

  pub removed_post : (p : Query.Place) → i ≡ first_place (is_same_place p) (deck_of deck).posts → {nears : List ℕ} →
      nears ≡ renewed deck (near_without (held_axis deck.axis) p (map place_of (take (deck.post_count - 1) left))) →
      with_post_list deck (deck.post_count - 1) left nears ≡ altered_record (remove_post p) deck
  unfolding altered_record deck_of
  removed_post p at f =
      let others = ap (λ (l : List Place). map place_of (take (deck.post_count - 1) l)) post_taken
      ∙ front_less place_of deck.post_count deck.posts i no_place h long
      ∙ ap (λ (j : ℕ). removed j (deck_of deck).posts) at ∙ sym (removed_is (is_same_place p) (deck_of deck).posts) in
      let posts = post_taken ∙ ap (λ (j : ℕ). taken_out_at deck.post_count j no_place deck.posts) at in
      let near = f ∙ ap (λ (l : List Query.Place). renewed deck (near_without (held_axis deck.axis) p l)) others in
      λ j. with_post_list deck (deck.post_count - 1) (posts j) (near j)

-- a stop taken out
module _ {deck : Deck} (u : Usable deck) {i : ℕ} (h : i < deck.stop_count) where
  pub stop_taken : {front : List Stop} → FrontWithout deck.stop_count i no_stop deck.stops front →
      front ++ drop deck.stop_count deck.stops ≡ taken_out_at deck.stop_count i no_stop deck.stops
  stop_taken = taken_here deck.stops deck.stop_count i no_stop h (omega (arith, u.listed.stops, u.listed.sized.stops))

  pub near_taken : {front : List ℕ} → FrontWithout deck.stop_count i 0 deck.near front →
      front ++ drop deck.stop_count deck.near ≡ taken_out_at deck.stop_count i 0 deck.near
  near_taken = taken_here deck.near deck.stop_count i 0 h u.nears.count

  pub removed_stop : {front : List Stop} {nears : List ℕ} → FrontWithout deck.stop_count i no_stop deck.stops front →
      FrontWithout deck.stop_count i 0 deck.near nears →
      with_stop_list deck (deck.stop_count - 1) (front ++ drop deck.stop_count deck.stops) (nears ++ drop deck.stop_count deck.near)
      ≡ with_stop_list deck (deck.stop_count - 1) (taken_out_at deck.stop_count i no_stop deck.stops) (taken_out_at deck.stop_count i 0 deck.near)
  removed_stop e f = λ j. with_stop_list deck (deck.stop_count - 1) (stop_taken e j) (near_taken f j)
