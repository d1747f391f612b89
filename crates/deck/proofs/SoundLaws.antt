-- Sound records: the record of a deck in range is sound, and what a sound record holds.
use mathlib.Core.Path.{◌≡◌, sym, ap, subst}
use mathlib.Core.List.{map}
use Prim.Native.Nat.{ℕ, ◌≤◌}
use native.Mathlib.Omega.{arith}
use lib.ListN.{length, get_or, length-map}
use Rattle.numbers.specs.Padded.{padded}
use Rattle.numbers.proofs.Members.{each_map}
use Rattle.numbers.proofs.Padded.{padded_length, padded_each}
use Rattle.query.specs.Place.{NonEmpty}
use Rattle.query.specs.Deck as Query
use Rattle.query.specs.Travel.{near}
use Rattle.query.specs.Cost.{before}
use Rattle.query.specs.Range.{InRange, posts_limit, stops_limit, travel_limit}
use Rattle.query.proofs.Ranges.{figure_limits}
use Rattle.deck.specs.declared.Deck.{Deck}
use Rattle.deck.specs.Values.{place_record, stop_record, no_place, no_stop}
use Rattle.deck.specs.DeckOf.{Sized, deck_of, deck_record}
use Rattle.deck.specs.Sound.{Sound}
use Rattle.deck.specs.Ranges.{NearsInRange}
use Rattle.deck.proofs.DeckLaws.{Listed, held_deck}

-- ---- the record of a deck in range
module _ (deck : Query.Deck) (range : InRange deck) where
  pub record_sized : Sized (deck_record deck)
  unfolding deck_record
  record_sized = record {
    posts = padded_length posts_limit no_place (map place_record deck.posts) (omega (arith, length-map deck.posts place_record, range.most_posts));
    stops = padded_length stops_limit no_stop (map stop_record deck.stops) (omega (arith, length-map deck.stops stop_record, range.most_stops));
  }

  pub record_sound : NonEmpty deck.area → Sound (deck_record deck)
  record_sound full = record {
    range = subst InRange (sym (held_deck deck)) range;
    full = subst (λ (d : Query.Deck). NonEmpty d.area) (sym (held_deck deck)) full;
    whole = ap deck_record (sym (held_deck deck));
  }

  nears_limit : (i : ℕ) → get_or (padded stops_limit 0 (map (near deck) deck.stops)) i 0 ≤ travel_limit
  nears_limit = padded_each (λ (m : ℕ). m ≤ travel_limit) 0 (omega arith) stops_limit (map (near deck) deck.stops)
      (each_map (λ (m : ℕ). m ≤ travel_limit) (near deck) deck.stops (figure_limits deck range).near_limit)

  record_nears : NearsInRange (deck_record deck).near (deck_record deck).stop_count
  unfolding deck_record
  record_nears = record {
    count = omega (arith, padded_length stops_limit 0 (map (near deck) deck.stops) (omega (arith, few, range.most_stops)), range.most_stops);
    range = λ i h. nears_limit i;
  }
    where
      few : length (map (near deck) deck.stops) ≡ length deck.stops
      few = length-map deck.stops (near deck)

-- ---- a sound record
module _ {deck : Deck} (sound : Sound deck) where
  pub sound_listed : Listed deck
  unfolding deck_record
  sound_listed = record {
    sized = subst Sized (sym sound.whole) (record_sized (deck_of deck) sound.range);
    posts = omega (arith, ap (λ (d : Deck). d.post_count) sound.whole, sound.range.most_posts);
    stops = omega (arith, ap (λ (d : Deck). d.stop_count) sound.whole, sound.range.most_stops);
  }

  pub sound_nears : NearsInRange deck.near deck.stop_count
  sound_nears = subst (λ (d : Deck). NearsInRange d.near d.stop_count) (sym sound.whole) (record_nears (deck_of deck) sound.range)

  pub sound_limit : (i : ℕ) → get_or (padded stops_limit 0 (map (near (deck_of deck)) (deck_of deck).stops)) i 0 ≤ travel_limit
  sound_limit = nears_limit (deck_of deck) sound.range

  pub sound_near : deck.near ≡ padded stops_limit 0 (map (near (deck_of deck)) (deck_of deck).stops)
  unfolding deck_record
  sound_near = ap (λ (d : Deck). d.near) sound.whole

  pub sound_posts : deck.post_count ≡ length (deck_of deck).posts
  unfolding deck_record
  sound_posts = ap (λ (d : Deck). d.post_count) sound.whole

  pub sound_stops : deck.stop_count ≡ length (deck_of deck).stops
  unfolding deck_record
  sound_stops = ap (λ (d : Deck). d.stop_count) sound.whole

  pub sound_before : deck.before ≡ before (deck_of deck)
  unfolding deck_record
  sound_before = ap (λ (d : Deck). d.before) sound.whole
