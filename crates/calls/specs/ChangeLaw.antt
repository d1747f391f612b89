-- What the four changes are held to (RULES "Change 6"), of every record that the code can hold.
use Rattle.std.specs.Prelude.{ℕ, ◌≤◌, ◌<◌, ◌≡◌, not, ◌↔◌, T, get_or}
use Rattle.query.specs.Range.{travel_limit}
use Rattle.deck.specs.DeckOf.{Sized, deck_of, deck_record}
use Rattle.deck.specs.Sound.{Sound}
use Rattle.deck.specs.declared.Deck.{Deck}
use Rattle.refusal.specs.declared.Refusal.{Refusal}
use Rattle.change.specs.Change.{Change, altered}
use Rattle.change.specs.ChangedRecord.{usable}
use Rattle.change.specs.Meaning.{ChangeApplies, Leaves}
use Rattle.calls.specs.Answers.{gives, refuses, refusal}
use Rattle.calls.specs.SavingLaw.{Saveable}
use Rattle.calls.specs.ChangeCall.{change_call}

pub record ChangeLaw (deck : Deck) (change : Change) : Type 0 where
  -- of any record: a refused change leaves it as it was, and has line 0
  pub refused_deck : (number line : ℕ) → (change_call deck change).answer ≡ refuses number line → (change_call deck change).deck ≡ deck
  pub line_0 : (number line : ℕ) → (change_call deck change).answer ≡ refuses number line → line ≡ 0
  -- whatever the answer, the area and the axis costs stay
  pub area_kept : (deck_of (change_call deck change).deck).area ≡ (deck_of deck).area
  pub axis_kept : (deck_of (change_call deck change).deck).axis ≡ (deck_of deck).axis
  -- a record can be changed if reading would accept its file, with 0 rounds, and no stop's near is more than a travel can be. Every record
  -- that the calls make can; one that cannot gets 3
  pub usable_exactly : Sized deck → T (usable deck)
      ↔ (Saveable deck 0 × ((i : ℕ) → i < deck.stop_count → get_or deck.near i 0 ≤ travel_limit))
  pub sound_usable : Sound deck → T (usable deck)
  pub unusable : T (not (usable deck)) → change_call deck change ≡ record { answer = refuses 3 0; deck = deck }
  -- of one that can be changed: each refusal exactly under its condition; the change is made exactly where none applies; then the record
  -- holds the deck with the changed list; and it can be changed again
  pub refused_exactly : T (usable deck) → (why : Refusal) →
      ((change_call deck change).answer ≡ refusal why) ↔ ChangeApplies (deck_of deck) change why
  pub made_exactly : T (usable deck) →
      ((change_call deck change).answer ≡ gives tt) ↔ ((why : Refusal) → ChangeApplies (deck_of deck) change why → ⊥)
  pub leaves : Sized deck → T (usable deck) → (change_call deck change).answer ≡ gives tt →
      Leaves (deck_of deck) (deck_of (change_call deck change).deck) change
  pub usable_again : Sized deck → T (usable deck) → Sized (change_call deck change).deck × T (usable (change_call deck change).deck)
  -- a sound record becomes that of the deck with the changed list, near and before included, and stays sound
  pub made : Sound deck → (change_call deck change).answer ≡ gives tt →
      (change_call deck change).deck ≡ deck_record (altered change (deck_of deck))
  pub sound : Sound deck → Sound (change_call deck change).deck
