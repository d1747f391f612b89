-- What the functions over the calls `report` and `exhaustive` answer: a figure of the answer, and what `report` leaves of the memory that
-- it is lent. And the numbers of any refused call.
use Rattle.std.specs.Prelude.{ℕ, List, [], ◌∷◌, ◌++◌, ℤ, pos, get_or, replicate}
use Rattle.query.specs.Order.{Priced}
use Rattle.query.specs.Figures.{Figures, State, done, stopped}
use Rattle.calls.specs.Answers.{AnswerOf, gives, refuses}
use Rattle.calls.specs.Call.{Left}
use Rattle.refusal.specs.declared.Refusal.{Refusal}
use Rattle.trial.specs.Trial.{least, refusal_numbers}

-- a result, with the cell space and the output as the call leaves them
pub record Called : Type 0 where
  pub result : ℤ
  pub cells : List ℤ
  pub out : List ℕ

abbrev pub called : (AnswerOf Figures → ℤ) → Left → Called
called f left = record { result = f left.answer; cells = left.cells; out = left.out }

abbrev pub state_number : State → ℤ
state_number done = pos 0
state_number stopped = pos 1

-- what a report carries, and 0 for the number and the line of a refusal
abbrev pub report_numbers : Figures → List ℤ
report_numbers f =
    state_number f.state ∷ f.at.x ∷ f.at.y ∷ pos f.high ∷ f.low ∷ pos f.before ∷ pos f.rounds ∷ pos 0 ∷ pos 0 ∷ []

-- the same numbers of an answer: a refusal has only the last two
abbrev pub answer_numbers : AnswerOf Figures → List ℤ
answer_numbers (gives f) = report_numbers f
answer_numbers (refuses number line) = least ∷ least ∷ least ∷ least ∷ least ∷ least ∷ least ∷ pos number ∷ pos line ∷ []

-- number `which` of them, counted from 0; the least number where there is none
abbrev pub figure_for : ℕ → AnswerOf Figures → ℤ
figure_for which answer = get_or (answer_numbers answer) which least

-- ---- the call `exhaustive`
-- x, y and cost of the cheapest crossing, and 0 for the number and the line of a refusal
abbrev pub spot_numbers : Priced → List ℤ
spot_numbers p = p.at.x ∷ p.at.y ∷ pos p.cost ∷ pos 0 ∷ pos 0 ∷ []

-- the same numbers of an answer: a refusal has only the last two
abbrev pub cheapest_numbers : AnswerOf Priced → List ℤ
cheapest_numbers (gives p) = spot_numbers p
cheapest_numbers (refuses number line) = least ∷ least ∷ least ∷ pos number ∷ pos line ∷ []

-- number `which` of them, counted from 0; the least number where there is none
abbrev pub cheapest_figure : ℕ → AnswerOf Priced → ℤ
cheapest_figure which answer = get_or (cheapest_numbers answer) which least

-- ---- a refused call
-- none of its figures, so many, then the number and the line of the refusal
abbrev pub refused_numbers : ℕ → Refusal → List ℤ
refused_numbers figures why = replicate figures least ++ refusal_numbers why
