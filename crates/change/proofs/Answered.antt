-- What a change of any record answers and leaves: where it is refused, and where it is not; and what refuses it.
use mathlib.Core.Path.{◌≡◌, ap}
use mathlib.Core.Option.{Option, none, some}
use lib.Dec.{T}
use Rattle.std.specs.Prelude.{Ok, Err}
use Rattle.numbers.proofs.Truth.{cond-true}
use Rattle.deck.specs.DeckOf.{deck_of}
use Rattle.deck.specs.declared.Deck.{Deck}
use Rattle.refusal.specs.declared.Refusal.{Refusal}
use Rattle.refusal.specs.declared.Refusal.TheVariants.{OutOfRange}
use Rattle.change.specs.Change.{Change, change_refusal, unless_refused}
use Rattle.change.specs.ChangedRecord.{usable, altered_record, record_refusal, Changed, answered, changed_record}

module _ (change : Change) (deck : Deck) where
  -- the refusal is that of the change of its deck, where it can be changed
  pub when_usable : T (usable deck) → record_refusal change deck ≡ change_refusal change (deck_of deck)
  unfolding record_refusal
  when_usable t = cond-true (usable deck) (change_refusal change (deck_of deck)) (some (OutOfRange 0)) t

  -- by the refusal
  abbrev outcome : Option Refusal → Changed
  outcome o = record { answer = answered o; deck = unless_refused o deck (altered_record change deck) }

  pub answer_refused : {why : Refusal} → record_refusal change deck ≡ some why →
      changed_record change deck ≡ record { answer = Err why; deck = deck }
  unfolding changed_record
  answer_refused e = ap outcome e

  pub answer_made : record_refusal change deck ≡ none → changed_record change deck ≡ record { answer = Ok tt; deck = altered_record change deck }
  unfolding changed_record
  answer_made e = ap outcome e
