-- What the call `estimate` answers (RULES "Change 3").
use Rattle.std.specs.Prelude.{ℕ, List}
use Rattle.query.specs.Estimate.{Estimate, estimate}
use Rattle.job.specs.Format.{read_job}
use Rattle.calls.specs.Answers.{AnswerOf, for_accepted}

unfoldable pub estimate_call : List ℕ → AnswerOf Estimate
unfolding read_job for_accepted estimate
estimate_call job = for_accepted (λ j. estimate j.deck j.rounds) (read_job job)
