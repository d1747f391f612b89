-- The numbers that a change leaves in the record of a deck are those of the record of the deck with the change made.
use mathlib.Core.Path.{◌≡◌, refl, sym, ap, ap₂, ◌∙◌}
use mathlib.Core.Option.{none}
use mathlib.Core.List.{List, [], ◌∷◌, ◌++◌, map, zip_with}
use Prim.Native.Nat.{ℕ, suc, ◌-◌, ◌≤◌}
use native.Mathlib.Nat.{zero-add}
use native.Mathlib.Omega.{arith}
use lib.ListN.{length, take, drop, set, replicate, length-map}
use lib.Seq.{paste, drop-append_seam}
use Rattle.numbers.specs.Padded.{padded}
use Rattle.numbers.proofs.Joined.{map_each}
use Rattle.numbers.proofs.Padded.{padded_map, padded_front}
use Rattle.query.specs.Place.{Place}
use Rattle.query.specs.Deck as Query
use Rattle.query.specs.Deck.{Stop}
use Rattle.query.specs.Travel.{closest, near}
use Rattle.query.specs.Cost.{before}
use Rattle.query.specs.Range.{InRange, posts_limit, stops_limit}
use Rattle.deck.specs.declared.Deck.{Deck}
use Rattle.deck.specs.declared.Place as Code
use Rattle.deck.specs.declared.Stop as CodeStop
use Rattle.deck.specs.Values.{place_record, stop_of, stop_record, no_place, no_stop}
use Rattle.deck.specs.DeckOf.{deck_of, deck_record, with_figures}
use Rattle.deck.specs.Sound.{Sound}
use Rattle.deck.proofs.DeckLaws.{held_deck}
use Rattle.columns.specs.StopFigures.{paid}
use Rattle.columns.proofs.PaidLaws.{paid_stops}
use Rattle.change.specs.Change.{Change, add_post, remove_post, add_stop, remove_stop, with_posts, with_stops, altered, change_refusal}
use Rattle.items.specs.Items.{is_same_place, is_same_stop, remove_first, first_place, taken_out_at}
use Rattle.change.specs.ChangedRecord.{with_post_list, with_stop_list, renewed, altered_record}
use Rattle.near_change.specs.NearChange.{near_with, near_without}
use Rattle.items.proofs.TakenOut.{array_removed}
use Rattle.items.proofs.FirstRemoved.{held_within, removed_length}
use Rattle.items.proofs.ItemValues.{post_held, stop_held}
use Rattle.change.proofs.NearChanges.{near_added, near_removed}
use Rattle.change.proofs.Conditions.{Allows, refusal_none}
use Rattle.change.proofs.AlteredLaws.{length_more}

-- ---- near of each stop, by its place and by what was stored
module _ (f : Place → ℕ → ℕ) (g : Stop → ℕ) where
  abbrev anew : List CodeStop.Stop → List ℕ → List ℕ
  anew stops nears = zip_with (λ s m. f (stop_of s).at m) stops nears

  each_near : (stops : List Stop) (behind : List ℕ) →
      take (length (map stop_record stops)) (anew (map stop_record stops) (map g stops ++ behind)) ≡ map (λ s. f s.at (g s)) stops
  unfolding zip_with
  each_near [] behind = refl
  each_near (s ∷ ss) behind = ap (λ (l : List ℕ). f s.at (g s) ∷ l) (each_near ss behind)

  nears_renewed : (stops : List Stop) →
      let nears = padded stops_limit 0 (map g stops) in
      paste nears 0 (anew (map stop_record stops) nears) (length (map stop_record stops)) ≡ padded stops_limit 0 (map (λ s. f s.at (g s)) stops)
  unfolding padded
  nears_renewed stops =
      let renewed = map (λ s. f s.at (g s)) stops in
      let behind = λ (n : ℕ). replicate (stops_limit - n) 0 in
      let stored = map g stops ++ behind (length (map g stops)) in
      ap₂ (λ (l r : List ℕ). l ++ r) (each_near stops _)
      (ap (λ (n : ℕ). drop n stored) (zero-add (length (map stop_record stops)) ∙ length-map stops stop_record ∙ sym (length-map stops g))
      ∙ drop-append_seam (map g stops) _
      ∙ ap behind (length-map stops g ∙ sym (length-map stops (λ s. f s.at (g s)))))

-- ---- a record that holds a deck with other posts, and with other stops
module _ (deck : Query.Deck) where
  stops_front : take (deck_record deck).stop_count (deck_record deck).stops ≡ map stop_record deck.stops
  unfolding deck_record
  stops_front = ap (λ (n : ℕ). take n (deck_record deck).stops) (sym (length-map deck.stops stop_record))
      ∙ padded_front stops_limit no_stop (map stop_record deck.stops)

  with_posts_lem : (posts : List Place) {n : ℕ} {array : List Code.Place} {nears : List ℕ} → n ≡ length posts →
      array ≡ padded posts_limit no_place (map place_record posts) → nears ≡ padded stops_limit 0 (map (near (with_posts posts deck)) deck.stops) →
      with_post_list (deck_record deck) n array nears ≡ deck_record (with_posts posts deck)
  unfolding deck_record before padded
  with_posts_lem posts e x v =
      let nears = padded stops_limit 0 (map (near (with_posts posts deck)) deck.stops) in
      (λ i. with_post_list (deck_record deck) (e i) (x i) (v i))
      ∙ ap (with_figures (deck_record (with_posts posts deck)) nears)
      (ap (λ (d : Query.Deck). paid d.stops nears) (held_deck deck) ∙ paid_stops (near (with_posts posts deck)) deck.stops _)

  with_stops_lem : (stops : List Stop) {n : ℕ} {array : List CodeStop.Stop} {nears : List ℕ} → n ≡ length stops →
      array ≡ padded stops_limit no_stop (map stop_record stops) → nears ≡ padded stops_limit 0 (map (near deck) stops) →
      with_stop_list (deck_record deck) n array nears ≡ deck_record (with_stops stops deck)
  unfolding deck_of deck_record before near padded
  with_stops_lem stops e x v =
      let nears = padded stops_limit 0 (map (near deck) stops) in
      (λ i. with_stop_list (deck_record deck) (e i) (x i) (v i))
      ∙ ap (with_figures (deck_record (with_stops stops deck)) nears)
      (ap (λ (d : Query.Deck). paid d.stops nears) (held_deck (with_stops stops deck)) ∙ paid_stops (near deck) stops _)

  -- ---- near with one more post, and with one less
  renewed_by : (f : Place → ℕ → ℕ) → renewed (deck_record deck) f ≡ padded stops_limit 0 (map (λ s. f s.at (near deck s)) deck.stops)
  unfolding renewed deck_record
  renewed_by f = ap (λ (l : List CodeStop.Stop). paste (deck_record deck).near 0 (anew f (near deck) l (deck_record deck).near) (length l)) stops_front
      ∙ nears_renewed f (near deck) deck.stops

  nears_more : (p : Place) → 1 ≤ length deck.posts →
      renewed (deck_record deck) (near_with deck.axis p) ≡ padded stops_limit 0 (map (near (with_posts (deck.posts ++ (p ∷ [])) deck)) deck.stops)
  unfolding near
  nears_more p h = renewed_by (near_with deck.axis p)
      ∙ ap (padded stops_limit 0) (map_each _ _ deck.stops (λ s m. near_added deck.axis s.at deck.posts p h))

  nears_less : (p : Place) → 2 ≤ length deck.posts →
      renewed (deck_record deck) (near_without deck.axis p (remove_first (is_same_place p) deck.posts))
      ≡ padded stops_limit 0 (map (near (with_posts (remove_first (is_same_place p) deck.posts) deck)) deck.stops)
  unfolding near
  nears_less p h = renewed_by (near_without deck.axis p (remove_first (is_same_place p) deck.posts))
      ∙ ap (padded stops_limit 0) (map_each _ _ deck.stops (λ s m. near_removed deck.axis s.at deck.posts p h))

  -- ---- each change of the deck's record; where the code finds posts or stops in the record, these are the deck's
  module _ (range : InRange deck) where
    post_added : (p : Place) → Allows (add_post p) deck → altered_record (add_post p) (deck_record deck) ≡ deck_record (altered (add_post p) deck)
    unfolding altered_record altered deck_record
    post_added p h = with_posts_lem (deck.posts ++ (p ∷ [])) (sym (length_more deck.posts p))
        (padded_map posts_limit no_place place_record deck.posts p refl h.1 refl) (nears_more p range.some_posts)

    abbrev without_post : Place → List Place → Deck
    without_post p posts = with_post_list (deck_record deck) ((deck_record deck).post_count - 1)
        (taken_out_at (deck_record deck).post_count (first_place (is_same_place p) posts) no_place (deck_record deck).posts)
        (renewed (deck_record deck) (near_without deck.axis p (remove_first (is_same_place p) posts)))

    post_removed : (p : Place) → Allows (remove_post p) deck → altered_record (remove_post p) (deck_record deck) ≡ deck_record (altered (remove_post p) deck)
    unfolding altered_record altered deck_record
    post_removed p h =
        let t = (post_held p deck.posts).1 h.1 in
        let within = held_within (is_same_place p) deck.posts t in
        ap (λ (d : Query.Deck). without_post p d.posts) (held_deck deck)
        ∙ with_posts_lem (remove_first (is_same_place p) deck.posts) (omega (arith, removed_length (is_same_place p) deck.posts t))
        (array_removed posts_limit no_place place_record (is_same_place p) deck.posts within range.most_posts) (nears_less p h.2)

    abbrev with_stop : Stop → List Place → Deck
    with_stop s posts = with_stop_list (deck_record deck) (suc (deck_record deck).stop_count)
        (set (deck_record deck).stops (deck_record deck).stop_count (stop_record s))
        (set (deck_record deck).near (deck_record deck).stop_count (closest deck.axis s.at posts))

    stop_added : (s : Stop) → Allows (add_stop s) deck → altered_record (add_stop s) (deck_record deck) ≡ deck_record (altered (add_stop s) deck)
    unfolding altered_record altered deck_record near
    stop_added s h =
        ap (λ (d : Query.Deck). with_stop s d.posts) (held_deck deck)
        ∙ with_stops_lem (deck.stops ++ (s ∷ [])) (sym (length_more deck.stops s))
        (padded_map stops_limit no_stop stop_record deck.stops s refl h.1 refl) (padded_map stops_limit 0 (near deck) deck.stops s refl h.1 refl)

    abbrev without_stop : Stop → List Stop → Deck
    without_stop s stops = with_stop_list (deck_record deck) ((deck_record deck).stop_count - 1)
        (taken_out_at (deck_record deck).stop_count (first_place (is_same_stop s) stops) no_stop (deck_record deck).stops)
        (taken_out_at (deck_record deck).stop_count (first_place (is_same_stop s) stops) 0 (deck_record deck).near)

    stop_removed : (s : Stop) → Allows (remove_stop s) deck → altered_record (remove_stop s) (deck_record deck) ≡ deck_record (altered (remove_stop s) deck)
    unfolding altered_record altered deck_record
    stop_removed s h =
        let t = (stop_held s deck.stops).1 h.1 in
        let within = held_within (is_same_stop s) deck.stops t in
        ap (λ (d : Query.Deck). without_stop s d.stops) (held_deck deck)
        ∙ with_stops_lem (remove_first (is_same_stop s) deck.stops) (omega (arith, removed_length (is_same_stop s) deck.stops t))
        (array_removed stops_limit no_stop stop_record (is_same_stop s) deck.stops within range.most_stops)
        (array_removed stops_limit 0 (near deck) (is_same_stop s) deck.stops within range.most_stops)

    pub altered_record_is : (change : Change) → Allows change deck → altered_record change (deck_record deck) ≡ deck_record (altered change deck)
    altered_record_is (add_post p) h = post_added p h
    altered_record_is (remove_post p) h = post_removed p h
    altered_record_is (add_stop s) h = stop_added s h
    altered_record_is (remove_stop s) h = stop_removed s h

-- ---- a change that is made, of a sound record
pub made_is : (deck : Deck) (change : Change) → Sound deck → change_refusal change (deck_of deck) ≡ none →
    altered_record change deck ≡ deck_record (altered change (deck_of deck))
made_is deck change sound e =
    ap (altered_record change) sound.whole
    ∙ altered_record_is (deck_of deck) sound.range change ((refusal_none change (deck_of deck)).0 e)
