-- Which records the calls make, and their near and before (RULES "Change 5", "Change 6").
use Rattle.std.specs.Prelude.{ℕ, ◌≤◌, ◌<◌, ◌≡◌, ◌↔◌, List, get_or}
use Rattle.query.specs.Deck.{Stop}
use Rattle.query.specs.Travel.{near}
use Rattle.query.specs.Cost.{before}
use Rattle.deck.specs.DeckOf.{deck_of}
use Rattle.deck.specs.Values.{no_stop}
use Rattle.deck.specs.Sound.{Sound}
use Rattle.deck.specs.declared.Deck.{Deck}
use Rattle.job.specs.declared.Job as Held
use Rattle.calls.specs.Answers.{gives}
use Rattle.change.specs.Change.{Change}
use Rattle.calls.specs.ReadCall.{read_call}
use Rattle.calls.specs.ChangeCall.{change_call}

-- a record that calls made: by reading a job, or from such a record by a change, whatever it answers
pub data Made : Deck → Type 0 where
  by_reading : (job : List ℕ) (held : Held.Job) → read_call job ≡ gives held → {deck : Deck} → deck ≡ held.deck → Made deck
  by_change : (held : Deck) (change : Change) → Made held → {deck : Deck} → deck ≡ (change_call held change).deck → Made deck

-- stop i of a record, counted from 0
abbrev pub stop_in : Deck → ℕ → Stop
stop_in deck i = let s = get_or deck.stops i no_stop in record { at = record { x = s.at.x; y = s.at.y }; visits = s.visits }

pub record RecordLaw (deck : Deck) : Type 0 where
  -- these records are the sound ones, whose near and before are those of the deck that they hold
  pub sound_exactly : Made deck ↔ Sound deck
  -- and each is read from some job, so that changes make no others
  pub as_read : Sound deck → (job : List ℕ) × (held : Held.Job) × (read_call job ≡ gives held) × (deck ≡ held.deck)
  -- near and before of a sound record, number by number
  pub near_is : Sound deck → (i : ℕ) → i < deck.stop_count → get_or deck.near i 0 ≡ near (deck_of deck) (stop_in deck i)
  pub near_behind : Sound deck → (i : ℕ) → deck.stop_count ≤ i → get_or deck.near i 0 ≡ 0
  pub before_is : Sound deck → deck.before ≡ before (deck_of deck)
  -- no two sound records hold one deck
  pub one_record : (other : Deck) → Sound deck → Sound other → deck_of deck ≡ deck_of other → deck ≡ other
