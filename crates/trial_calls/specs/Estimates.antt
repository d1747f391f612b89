-- What the function over the call `estimate` answers: a figure of the answer.
use Rattle.std.specs.Prelude.{ℕ, ◌^◌, ◌<◌, List, [], ◌∷◌, ℤ, pos, get_or}
use Rattle.query.specs.Estimate.{Estimate}
use Rattle.calls.specs.Answers.{AnswerOf, gives, refuses}
use Rattle.trial.specs.Trial.{least}

-- an estimate whose numbers are signed words
pub record SmallEstimate (needs : Estimate) : Type 0 where
  pub across : needs.across < 2 ^ 63
  pub deep : needs.deep < 2 ^ 63
  pub limit : needs.limit < 2 ^ 63
  pub cells : needs.cells < 2 ^ 63

-- the numbers of an estimate, and 0 for the number and the line of a refusal
abbrev pub needs_numbers : Estimate → List ℤ
needs_numbers e = pos e.across ∷ pos e.deep ∷ pos e.limit ∷ pos e.cells ∷ pos 0 ∷ pos 0 ∷ []

-- the same numbers of an answer: a refusal has only the last two
abbrev pub estimated_numbers : AnswerOf Estimate → List ℤ
estimated_numbers (gives e) = needs_numbers e
estimated_numbers (refuses number line) = least ∷ least ∷ least ∷ least ∷ pos number ∷ pos line ∷ []

-- number `which` of them, counted from 0; the least number where there is none
abbrev pub estimate_figure : ℕ → AnswerOf Estimate → ℤ
estimate_figure which answer = get_or (estimated_numbers answer) which least
