-- What the call `exhaustive` answers (RULES "Exhaustive search").
use Rattle.std.specs.Prelude.{ℕ, List}
use Rattle.query.specs.Order.{Priced}
use Rattle.query.specs.Problem.{problem}
use Rattle.query.specs.Exhaustive as Query
use Rattle.job.specs.Format.{read_job}
use Rattle.calls.specs.Answers.{AnswerOf, for_accepted}

-- the cheapest crossing of lines, whatever the job's rounds
unfoldable pub exhaustive_call : List ℕ → AnswerOf Priced
unfolding read_job for_accepted Query.exhaustive problem
exhaustive_call job = for_accepted (λ j. Query.exhaustive (problem j.deck)) (read_job job)
