-- What the functions over the calls that read, write and change records answer: a figure of the answer, and what they leave of the record or
-- of the output that they are lent.
use Rattle.std.specs.Prelude.{ℕ, cond, List, [], ◌∷◌, eqb, ltb, ℤ, pos, get_or}
use Rattle.query.specs.Deck.{Stop}
use Rattle.deck.specs.declared.Deck.{Deck}
use Rattle.change.specs.Change.{Change, add_post, remove_post, add_stop, remove_stop}
use Rattle.calls.specs.Answers.{AnswerOf, gives, refuses}
use Rattle.job.specs.declared.Job as Held
use Rattle.calls.specs.WriteCall.{Saved}
use Rattle.calls.specs.ChangeCall.{AfterChange, change_call}
use Rattle.trial.specs.Trial.{least}

-- a figure, and the record then
pub record WithRecord : Type 0 where
  pub result : ℤ
  pub deck : Deck

-- a figure, and the output then
pub record WithOutput : Type 0 where
  pub result : ℤ
  pub out : List ℕ

-- ---- the calls `read` and `write`
-- the number that is given, and 0 for the number and the line of a refusal; a refusal has only the last two
abbrev pub count_numbers : AnswerOf ℕ → List ℤ
count_numbers (gives n) = pos n ∷ pos 0 ∷ pos 0 ∷ []
count_numbers (refuses number line) = least ∷ pos number ∷ pos line ∷ []

-- number `which` of them, counted from 0; the least number where there is none
abbrev pub count_figure : ℕ → AnswerOf ℕ → ℤ
count_figure which answer = get_or (count_numbers answer) which least

-- of an answer of `read` a figure, that of the rounds, and the record of an accepted job; a refusal leaves the record that was lent
abbrev pub read_into : ℕ → Deck → AnswerOf Held.Job → WithRecord
read_into which deck (gives job) = record { result = count_figure which (gives job.rounds); deck = job.deck }
read_into which deck (refuses number line) = record { result = count_figure which (refuses number line); deck = deck }

-- of what `write` leaves a figure, that of the bytes written, and the output
abbrev pub wrote : ℕ → Saved → WithOutput
wrote which s = record { result = count_figure which s.answer; out = s.out }

-- ---- the changes
-- 0 for the number and the line of a refusal where a change is made
abbrev pub change_numbers : AnswerOf (Unit {0}) → List ℤ
change_numbers (gives made) = pos 0 ∷ pos 0 ∷ []
change_numbers (refuses number line) = pos number ∷ pos line ∷ []

-- number `which` of them, counted from 0; the least number where there is none
abbrev pub change_figure : ℕ → AnswerOf (Unit {0}) → ℤ
change_figure which answer = get_or (change_numbers answer) which least

-- the change of a kind: there are four, from 0 on. A post is at the stop's place
abbrev pub change_of : ℕ → Stop → Change
change_of kind item =
    cond (eqb kind 0) (add_post item.at) (cond (eqb kind 1) (remove_post item.at) (cond (eqb kind 2) (add_stop item) (remove_stop item)))

abbrev pub changed_into : ℕ → AfterChange → WithRecord
changed_into which r = record { result = change_figure which r.answer; deck = r.deck }

-- a change of the record; where there is no such kind, the record as it was
abbrev pub trial_change : Deck → ℕ → Stop → ℕ → WithRecord
trial_change deck kind item which =
    cond (ltb kind 4) (changed_into which (change_call deck (change_of kind item))) (record { result = least; deck = deck })
