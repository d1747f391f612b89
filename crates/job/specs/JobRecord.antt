-- A job as the code holds it.
use Rattle.std.specs.Prelude as Std
use Rattle.std.specs.Prelude.{Ok, Err}
use Rattle.deck.specs.DeckOf.{deck_record}
use Rattle.job.specs.Format as Format
use Rattle.job.specs.Format.{Result, refused, accepted}
use Rattle.job.specs.declared.Job.{Job}
use Rattle.refusal.specs.declared.Refusal.{Refusal}

-- its rounds, and the record of its deck
abbrev pub job_record : Format.Job → Job
job_record job = record { rounds = job.rounds; deck = deck_record job.deck }

-- what `read` answers: that of the job that the bytes spell, or the refusal
unfoldable pub job_result : Result → Std.Result Job Refusal
unfolding deck_record
job_result (refused why) = Err why
job_result (accepted job) = Ok (job_record job)
