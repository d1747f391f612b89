-- A deck with a change made: its values stay in range, and its area and its axis costs are kept; and so after a run of changes.
use mathlib.Core.Path.{◌≡◌, refl, ◌∙◌}
use mathlib.Core.Option.{Option, none, some}
use mathlib.Core.List.Memᴰ
use mathlib.Core.List.{List, [], ◌∷◌, ◌++◌, Memᴰ}
use Prim.Native.Nat.{suc, ◌≤◌}
use native.Mathlib.Omega.{arith}
use lib.ListN.{length, length-append}
use Rattle.numbers.proofs.Members.{each_cons, each_append}
use Rattle.query.specs.Place.{Place}
use Rattle.query.specs.Deck.{Stop, Deck}
use Rattle.query.specs.Range.{PlaceInRange, StopInRange, InRange, posts_limit, stops_limit}
use Rattle.refusal.specs.declared.Refusal.{Refusal}
use Rattle.change.specs.Change.{Change, add_post, remove_post, add_stop, remove_stop, with_posts, with_stops, altered}
use Rattle.items.specs.Items.{is_same_place, is_same_stop, remove_first}
use Rattle.change.specs.Change.{change_refusal, unless_refused, changed, changed_by}
use Rattle.items.proofs.FirstRemoved.{removed_length, removed_from}
use Rattle.items.proofs.ItemValues.{post_held, stop_held}
use Rattle.change.proofs.Conditions.{Allows, refusal_none}

-- ---- one more, and one less
pub length_more : {A : Type 0} (xs : List A) (x : A) → length (xs ++ (x ∷ [])) ≡ suc (length xs)
length_more xs x = omega (arith, length-append xs (x ∷ []))

pub each_more : {A : Type 0} (P : A → Type 0) (xs : List A) (x : A) → ((a : A) → Memᴰ a xs → P a) → P x → (a : A) → Memᴰ a (xs ++ (x ∷ [])) → P a
each_more P xs x each last = each_append P xs each (each_cons P last (λ a m. absurd (Memᴰ.not-nil m)))

-- ---- a deck in range with other posts, and with other stops
module _ (deck : Deck) (range : InRange deck) where
  posts_in : (posts : List Place) → ((p : Place) → Memᴰ p posts → PlaceInRange p) → 1 ≤ length posts → length posts ≤ posts_limit →
      InRange (with_posts posts deck)
  posts_in posts each least most = record {
    axis_some = range.axis_some;
    axis_most = range.axis_most;
    area = range.area;
    posts = each;
    some_posts = least;
    most_posts = most;
    stops = range.stops;
    some_stops = range.some_stops;
    most_stops = range.most_stops;
  }

  stops_in : (stops : List Stop) → ((s : Stop) → Memᴰ s stops → StopInRange s) → 1 ≤ length stops → length stops ≤ stops_limit →
      InRange (with_stops stops deck)
  stops_in stops each least most = record {
    axis_some = range.axis_some;
    axis_most = range.axis_most;
    area = range.area;
    posts = range.posts;
    some_posts = range.some_posts;
    most_posts = range.most_posts;
    stops = each;
    some_stops = least;
    most_stops = most;
  }

  allowed_altered : (change : Change) → Allows change deck → InRange (altered change deck)
  unfolding altered
  allowed_altered (add_post p) h =
      let long = length_more deck.posts p in
      posts_in (deck.posts ++ (p ∷ [])) (each_more PlaceInRange deck.posts p range.posts h.0) (omega (arith, long)) (omega (arith, long, h.1))
  allowed_altered (remove_post p) h =
      let long = removed_length (is_same_place p) deck.posts ((post_held p deck.posts).1 h.1) in
      posts_in (remove_first (is_same_place p) deck.posts) (λ q m. range.posts q (removed_from (is_same_place p) deck.posts m))
      (omega (arith, long, h.2)) (omega (arith, long, range.most_posts))
  allowed_altered (add_stop s) h =
      let long = length_more deck.stops s in
      stops_in (deck.stops ++ (s ∷ [])) (each_more StopInRange deck.stops s range.stops h.0) (omega (arith, long)) (omega (arith, long, h.1))
  allowed_altered (remove_stop s) h =
      let long = removed_length (is_same_stop s) deck.stops ((stop_held s deck.stops).1 h.1) in
      stops_in (remove_first (is_same_stop s) deck.stops) (λ t m. range.stops t (removed_from (is_same_stop s) deck.stops m))
      (omega (arith, long, h.2)) (omega (arith, long, range.most_stops))

pub altered_range : (deck : Deck) (change : Change) → InRange deck → change_refusal change deck ≡ none → InRange (altered change deck)
altered_range deck change range e = allowed_altered deck range change ((refusal_none change deck).0 e)

-- ---- what a change keeps
pub altered_area : (change : Change) (deck : Deck) → (altered change deck).area ≡ deck.area
unfolding altered
altered_area (add_post p) deck = refl
altered_area (remove_post p) deck = refl
altered_area (add_stop s) deck = refl
altered_area (remove_stop s) deck = refl

pub altered_axis : (change : Change) (deck : Deck) → (altered change deck).axis ≡ deck.axis
unfolding altered
altered_axis (add_post p) deck = refl
altered_axis (remove_post p) deck = refl
altered_axis (add_stop s) deck = refl
altered_axis (remove_stop s) deck = refl

-- ---- a change that may be refused: what holds of the deck and of the deck with the change made
pub unless_ind : {A : Type 0} (P : A → Type 0) (o : Option Refusal) {before after : A} → P before → (o ≡ none → P after) → P (unless_refused o before after)
unless_ind P none was made = made refl
unless_ind P (some why) was made = was

pub changed_ind : (P : Deck → Type 0) (deck : Deck) (change : Change) → P deck → (change_refusal change deck ≡ none → P (altered change deck)) →
    P (changed deck change)
unfolding changed
changed_ind P deck change = unless_ind P (change_refusal change deck)

pub changed_range : (deck : Deck) (change : Change) → InRange deck → InRange (changed deck change)
changed_range deck change range = changed_ind InRange deck change range (altered_range deck change range)

pub changed_area : (deck : Deck) (change : Change) → (changed deck change).area ≡ deck.area
changed_area deck change = changed_ind (λ (d : Deck). d.area ≡ deck.area) deck change refl (λ e. altered_area change deck)

pub changed_axis : (deck : Deck) (change : Change) → (changed deck change).axis ≡ deck.axis
changed_axis deck change = changed_ind (λ (d : Deck). d.axis ≡ deck.axis) deck change refl (λ e. altered_axis change deck)

-- ---- a run of changes: what holds of the deck and is kept by each change
pub run_ind : (P : Deck → Type 0) → ((deck : Deck) (change : Change) → P deck → P (changed deck change)) → (changes : List Change) (deck : Deck) →
    P deck → P (changed_by changes deck)
unfolding changed_by
run_ind P each [] deck h = h
run_ind P each (change ∷ changes) deck h = run_ind P each changes (changed deck change) (each deck change h)

pub run_range : (changes : List Change) (deck : Deck) → InRange deck → InRange (changed_by changes deck)
run_range = run_ind InRange changed_range

pub run_area : (changes : List Change) (deck : Deck) → (changed_by changes deck).area ≡ deck.area
run_area changes deck = run_ind (λ (d : Deck). d.area ≡ deck.area) (λ d change h. changed_area d change ∙ h) changes deck refl

pub run_axis : (changes : List Change) (deck : Deck) → (changed_by changes deck).axis ≡ deck.axis
run_axis changes deck = run_ind (λ (d : Deck). d.axis ≡ deck.axis) (λ d change h. changed_axis d change ∙ h) changes deck refl
