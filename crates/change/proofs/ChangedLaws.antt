-- Changes of a sound record leave the record of the deck with them made, which is sound; a refused change leaves any record as it was.
use mathlib.Core.Path.{◌≡◌, refl, sym, ap, subst, ◌∙◌}
use mathlib.Core.Option.{Option, none, some}
use mathlib.Core.List.{List, [], ◌∷◌, foldl}
use Rattle.std.specs.Prelude.{Ok}
use Rattle.query.specs.Place.{NonEmpty}
use Rattle.query.specs.Deck as Query
use Rattle.deck.specs.DeckOf.{deck_of, deck_record}
use Rattle.deck.specs.Sound.{Sound}
use Rattle.deck.specs.declared.Deck.{Deck}
use Rattle.deck.proofs.DeckLaws.{held_deck}
use Rattle.deck.proofs.SoundLaws.{record_sound}
use Rattle.refusal.specs.declared.Refusal.{Refusal}
use Rattle.change.specs.Change.{Change, altered, change_refusal, unless_refused, changed, changed_by}
use Rattle.change.specs.ChangedRecord.{altered_record, changed_record, record_after}
use Rattle.change.proofs.UsableExactly.{sound_usable}
use Rattle.change.proofs.AlteredLaws.{changed_range, changed_area}
use Rattle.change.proofs.AlteredRecord.{made_is}
use Rattle.change.proofs.Answered.{when_usable, answer_made}

-- ---- a change of a sound record
pub changed_is : (deck : Deck) (change : Change) → Sound deck → (changed_record change deck).deck ≡ deck_record (changed (deck_of deck) change)
unfolding changed_record changed
changed_is deck change sound =
    ap (λ (o : Option Refusal). unless_refused o deck (altered_record change deck)) (when_usable change deck (sound_usable deck sound))
    ∙ go (change_refusal change (deck_of deck)) (made_is deck change sound)
  where
    go : (o : Option Refusal) → (o ≡ none → altered_record change deck ≡ deck_record (altered change (deck_of deck))) →
        unless_refused o deck (altered_record change deck) ≡ deck_record (unless_refused o (deck_of deck) (altered change (deck_of deck)))
    go none made = made refl
    go (some why) made = sound.whole

-- the answer where it is made
pub made_answer : (deck : Deck) (change : Change) → Sound deck → change_refusal change (deck_of deck) ≡ none →
    changed_record change deck ≡ record { answer = Ok tt; deck = deck_record (altered change (deck_of deck)) }
made_answer deck change sound e =
    answer_made change deck (when_usable change deck (sound_usable deck sound) ∙ e)
    ∙ ap (λ (d : Deck). record { answer = Ok tt; deck = d }) (made_is deck change sound e)

pub changed_sound : (deck : Deck) (change : Change) → Sound deck → Sound (changed_record change deck).deck
changed_sound deck change sound = subst Sound (sym (changed_is deck change sound)) (record_sound (changed (deck_of deck) change)
    (changed_range (deck_of deck) change sound.range) (subst NonEmpty (sym (changed_area (deck_of deck) change)) sound.full))

-- ---- a run of changes
pub run_sound : (changes : List Change) (deck : Deck) → Sound deck → Sound (record_after changes deck)
unfolding record_after
run_sound [] deck sound = sound
run_sound (change ∷ changes) deck sound = run_sound changes (changed_record change deck).deck (changed_sound deck change sound)

pub run_is : (changes : List Change) (deck : Deck) → Sound deck → record_after changes deck ≡ deck_record (changed_by changes (deck_of deck))
unfolding record_after changed_by
run_is [] deck sound = sound.whole
run_is (change ∷ changes) deck sound =
    run_is changes (changed_record change deck).deck (changed_sound deck change sound)
    ∙ ap (λ (d : Query.Deck). deck_record (foldl changed d changes)) (ap deck_of (changed_is deck change sound) ∙ held_deck (changed (deck_of deck) change))
