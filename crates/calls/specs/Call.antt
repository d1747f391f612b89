-- What the call `report` answers, and what it leaves in the cell space and the output that it is lent (RULES "Calls").
use Rattle.std.specs.Prelude.{ℕ, ◌+◌, ◌*◌, cond, List, ltb, ℤ, pos, length, replicate}
use Rattle.query.specs.Figures.{Figures, figures}
use Rattle.query.specs.Estimate.{cells_needed}
use Rattle.query.specs.Space.{space, space_needed}
use Rattle.query.specs.Range.{rounds_limit}
use Rattle.job.specs.Format.{Job, Result, refused, accepted, read_job}
use Rattle.refusal.specs.declared.Refusal.{Refusal}
use Rattle.refusal.specs.declared.Refusal.TheVariants.{SmallSpace, ShortOutput}
use Rattle.write.specs.Written.{overwritten}
use Rattle.report.specs.Limits.{output_size}
use Rattle.report.specs.Text.{report_text}
use Rattle.calls.specs.Answers.{AnswerOf, gives, refusal}

-- an answer, with the cell space and the output as the call leaves them
pub record Left : Type 0 where
  pub answer : AnswerOf Figures
  pub cells : List ℤ
  pub out : List ℕ

-- a refusal leaves both as they were
abbrev pub turned_down : Refusal → List ℤ → List ℕ → Left
turned_down why cells out = record { answer = refusal why; cells = cells; out = out }

-- the figures of a job's report
abbrev pub job_figures : Job → Figures
job_figures job = figures job.deck job.rounds

-- the text at the start of the output, and the live cells in the cell space
unfoldable pub reported : Job → List ℤ → List ℕ → Left
unfolding figures space report_text overwritten
reported job cells out = record {
  answer = gives (job_figures job);
  cells = space job.deck job.rounds (length cells);
  out = overwritten (report_text (job_figures job)) out;
}

-- of a job as it was read: its own refusal, then 7, then 8 (RULES "Refusals"), or a report. The search has no part in what is refused
unfoldable pub answered : Result → List ℤ → List ℕ → Left
unfolding cells_needed reported
answered (refused why) cells out = turned_down why cells out
answered (accepted job) cells out = cond (ltb (length cells) (space_needed job.deck job.rounds)) (turned_down SmallSpace cells out)
    (cond (ltb (length out) output_size) (turned_down ShortOutput cells out) (reported job cells out))

-- of a job's bytes and what is lent
unfoldable pub report_call : List ℕ → List ℤ → List ℕ → Left
unfolding read_job answered
report_call job cells out = answered (read_job job) cells out

-- the C entry and the program are lent no cell space: they answer as the call that is lent this one, which is enough for every job
abbrev pub own_space : List ℤ
own_space = replicate (5 * (rounds_limit + 1)) (pos 0)
