-- What is promised of what the program prints (RULES "Calls", "Report"), over every input.
use Rattle.std.specs.Prelude.{ℕ, ◌≡◌, List}
use Rattle.refusal.specs.Refusal.{number_of, line_of}
use Rattle.refusal.specs.declared.Refusal.{Refusal}
use Rattle.job.specs.Format.{Job, accepted, read_job}
use Rattle.job.specs.Meaning.{Condition}
use Rattle.report.specs.Text.{report_text, refusal_text}
use Rattle.calls.specs.Call.{job_figures}
use Rattle.calls.specs.Program.{answer_text}

pub record ProgramLaw (job : List ℕ) : Type 0 where
  -- the report of the rules of a job that is read, or the refusal of reading
  pub report : (j : Job) → read_job job ≡ accepted j → answer_text job ≡ report_text (job_figures j)
  pub refusal : (why : Refusal) → Condition job why → answer_text job ≡ refusal_text (number_of why) (line_of why)
