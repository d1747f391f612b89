-- What the calls `add_post`, `remove_post`, `add_stop` and `remove_stop` answer for any record of a deck, and the record as it is then
-- (RULES "Change 6").
use Rattle.deck.specs.declared.Deck.{Deck}
use Rattle.change.specs.Change.{Change}
use Rattle.change.specs.ChangedRecord.{Changed, changed_record}
use Rattle.calls.specs.Answers.{AnswerOf, change_answer}

pub record AfterChange : Type 0 where
  pub answer : AnswerOf (Unit {0})
  pub deck : Deck

abbrev pub after_change : Changed → AfterChange
after_change r = record { answer = change_answer r.answer; deck = r.deck }

unfoldable pub change_call : Deck → Change → AfterChange
unfolding changed_record
change_call deck change = after_change (changed_record change deck)
