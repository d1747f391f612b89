-- A change of any record that can be changed: it leaves a record of the changed deck, which can be changed again.
use mathlib.Core.Path.{◌≡◌, sym, ap, subst, ◌∙◌}
use mathlib.Core.List.{List}
use mathlib.Core.Option.{none}
use Prim.Native.Nat.{◌≤◌, ◌<◌}
use native.Mathlib.Omega.{arith}
use lib.Dec.{T}
use lib.ListN.{length, length-set}
use Rattle.query.specs.Place.{Place, NonEmpty}
use Rattle.query.specs.Deck as Query
use Rattle.query.specs.Deck.{Stop}
use Rattle.query.specs.Range.{InRange, travel_limit, posts_limit, stops_limit}
use Rattle.deck.specs.DeckOf.{Sized, deck_of}
use Rattle.deck.specs.Values.{held_axis, place_of, place_record, stop_of, stop_record, no_place, no_stop}
use Rattle.deck.specs.declared.Deck.{Deck}
use Rattle.deck.proofs.DeckLaws.{Listed, posts_counted, stops_counted, stops_range}
use Rattle.job.specs.File.{held_job}
use Rattle.job.specs.Spelling.{Allowed}
use Rattle.job.proofs.AllowedLaws.{in_range_allowed}
use Rattle.items.specs.Items.{is_same_place, is_same_stop, first_place}
use Rattle.items.proofs.FirstPlace.{removed_is}
use Rattle.items.proofs.FirstRemoved.{held_within}
use Rattle.items.proofs.ItemValues.{post_held, stop_held}
use Rattle.items.proofs.Removal.{taken_length}
use Rattle.change.specs.Change.{Change, add_post, remove_post, add_stop, remove_stop, with_posts, with_stops, altered, change_refusal}
use Rattle.change.specs.ChangedRecord.{usable, altered_record}
use Rattle.change.proofs.AlteredLaws.{altered_range, altered_area}
use Rattle.change.proofs.Conditions.{Allows, refusal_none}
use Rattle.change.proofs.FrontChanges.{EachUpTo, set_up_to, taken_up_to, front_more, front_less}
use Rattle.change.proofs.KeptNears.{renewed_up_to, closest_limit, with_limit, without_limit}
use Rattle.change.proofs.UsableExactly.{usable_exactly, usable_counts, usable_range, usable_area, usable_near}

module _ (deck : Deck) (listed : Listed deck) where
  post_room : length (deck_of deck).posts < posts_limit → deck.post_count < length deck.posts
  post_room h = omega (arith, posts_counted deck listed.sized, listed.sized.posts)

  stop_room : length (deck_of deck).stops < stops_limit → deck.stop_count < length deck.stops
  stop_room h = omega (arith, stops_counted deck listed.sized, listed.sized.stops)

  -- where the item is that goes, among those that count
  post_within : (p : Place) → Allows (remove_post p) (deck_of deck) →
      (first_place (is_same_place p) (deck_of deck).posts < deck.post_count) × (deck.post_count ≤ length deck.posts)
  post_within p h =
      let within = held_within (is_same_place p) (deck_of deck).posts ((post_held p (deck_of deck).posts).1 h.1) in
      (omega (arith, within, posts_counted deck listed.sized), omega (arith, listed.posts, listed.sized.posts))

  stop_within : (s : Stop) → Allows (remove_stop s) (deck_of deck) →
      (first_place (is_same_stop s) (deck_of deck).stops < deck.stop_count) × (deck.stop_count ≤ length deck.stops)
  stop_within s h =
      let within = held_within (is_same_stop s) (deck_of deck).stops ((stop_held s (deck_of deck).stops).1 h.1) in
      (omega (arith, within, stops_counted deck listed.sized), omega (arith, listed.stops, listed.sized.stops))

  -- ---- its posts and its stops are those of the deck with the change made
  deck_is : (change : Change) → Allows change (deck_of deck) → deck_of (altered_record change deck) ≡ altered change (deck_of deck)
  unfolding deck_of altered_record altered
  deck_is (add_post p) h = ap (λ (l : List Place). with_posts l (deck_of deck))
      (front_more place_of deck.post_count deck.posts (place_record p) (post_room h.1))
  deck_is (remove_post p) h =
      let within = post_within p h in
      ap (λ (l : List Place). with_posts l (deck_of deck)) (front_less place_of deck.post_count deck.posts _ no_place within.0 within.1
      ∙ sym (removed_is (is_same_place p) (deck_of deck).posts))
  deck_is (add_stop s) h = ap (λ (l : List Stop). with_stops l (deck_of deck))
      (front_more stop_of deck.stop_count deck.stops (stop_record s) (stop_room h.1))
  deck_is (remove_stop s) h =
      let within = stop_within s h in
      ap (λ (l : List Stop). with_stops l (deck_of deck)) (front_less stop_of deck.stop_count deck.stops _ no_stop within.0 within.1
      ∙ sym (removed_is (is_same_stop s) (deck_of deck).stops))

  -- ---- it is a record that the code can hold, with counts within its arrays
  listed_kept : (change : Change) → Allows change (deck_of deck) → Listed (altered_record change deck)
  unfolding altered_record
  listed_kept (add_post p) h = record {
    sized = record { posts = length-set deck.posts deck.post_count (place_record p) ∙ listed.sized.posts; stops = listed.sized.stops };
    posts = omega (arith, post_room h.1, listed.sized.posts);
    stops = listed.stops;
  }
  listed_kept (remove_post p) h =
      let within = post_within p h in
      record {
        sized = record {
          posts = taken_length deck.posts _ deck.post_count no_place within.0 within.1 ∙ listed.sized.posts;
          stops = listed.sized.stops;
        };
        posts = omega (arith, listed.posts);
        stops = listed.stops;
      }
  listed_kept (add_stop s) h = record {
    sized = record { posts = listed.sized.posts; stops = length-set deck.stops deck.stop_count (stop_record s) ∙ listed.sized.stops };
    posts = listed.posts;
    stops = omega (arith, stop_room h.1, listed.sized.stops);
  }
  listed_kept (remove_stop s) h =
      let within = stop_within s h in
      record {
        sized = record {
          posts = listed.sized.posts;
          stops = taken_length deck.stops _ deck.stop_count no_stop within.0 within.1 ∙ listed.sized.stops;
        };
        posts = listed.posts;
        stops = omega (arith, listed.stops);
      }

  -- ---- near
  module _ (range : InRange (deck_of deck)) where
    near_few : EachUpTo travel_limit deck.near deck.stop_count → (change : Change) → Allows change (deck_of deck) →
        EachUpTo travel_limit (altered_record change deck).near (altered_record change deck).stop_count
    unfolding deck_of altered_record altered
    near_few few (add_post p) h = renewed_up_to deck _ listed (stops_range deck range) (with_limit (held_axis deck.axis) p) few
    near_few few (remove_post p) h =
        let left = altered_range (deck_of deck) (remove_post p) range ((refusal_none (remove_post p) (deck_of deck)).1 h) in
        let posts = (altered (remove_post p) (deck_of deck)).posts in
        renewed_up_to deck _ listed (stops_range deck range)
        (without_limit (held_axis deck.axis) posts (closest_limit left.axis_most left.some_posts left.posts) p) few
    near_few few (add_stop s) h =
        set_up_to travel_limit deck.stop_count _ deck.near (closest_limit range.axis_most range.some_posts range.posts s.at h.0.place) few
    near_few few (remove_stop s) h = taken_up_to travel_limit deck.stop_count _ deck.near few

-- ---- a change that is made
module _ (change : Change) (deck : Deck) (sized : Sized deck) (t : T (usable deck)) (e : change_refusal change (deck_of deck) ≡ none) where
  allows : Allows change (deck_of deck)
  allows = (refusal_none change (deck_of deck)).0 e

  pub deck_of_altered : deck_of (altered_record change deck) ≡ altered change (deck_of deck)
  deck_of_altered = deck_is deck (usable_counts deck sized t) change allows

  file_allowed : Allowed (held_job (altered_record change deck) 0)
  file_allowed = in_range_allowed (held_job (altered_record change deck) 0)
      (subst InRange (sym deck_of_altered) (altered_range (deck_of deck) change (usable_range deck sized t) e))
      (subst (λ (d : Query.Deck). NonEmpty d.area) (sym deck_of_altered)
      (subst NonEmpty (sym (altered_area change (deck_of deck))) (usable_area deck sized t))) (omega arith)

  -- it can be changed again
  pub kept : Sized (altered_record change deck) × T (usable (altered_record change deck))
  kept =
      let listed = listed_kept deck (usable_counts deck sized t) change allows in
      let nears = near_few deck (usable_counts deck sized t) (usable_range deck sized t) (usable_near deck sized t) change allows in
      (listed.sized, (usable_exactly (altered_record change deck) listed.sized).1 (file_allowed, listed.posts, listed.stops, nears))
