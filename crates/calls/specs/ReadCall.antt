-- What the call `read` answers (RULES "Calls", "Change 1"): a job's bytes as the code holds the job that they spell.
use Rattle.std.specs.Prelude.{List, ℕ}
use Rattle.deck.specs.DeckOf.{deck_record}
use Rattle.job.specs.Format.{read_job}
use Rattle.job.specs.JobRecord.{job_record}
use Rattle.job.specs.declared.Job as Held
use Rattle.calls.specs.Answers.{AnswerOf, for_accepted}

-- that of an accepted job, or a refusal
unfoldable pub read_call : List ℕ → AnswerOf Held.Job
unfolding read_job for_accepted deck_record
read_call job = for_accepted job_record (read_job job)
