-- What is promised of the C entry (RULES "Calls"), over every job's bytes and every output.
use Rattle.std.specs.Prelude.{ℕ, ◌≤◌, ◌<◌, ◌≡◌, List, pos, neg_ℤ, length}
use Rattle.refusal.specs.Refusal.{number_of}
use Rattle.refusal.specs.declared.Refusal.{Refusal}
use Rattle.job.specs.Format.{Job, accepted, read_job}
use Rattle.job.specs.Meaning.{Condition}
use Rattle.write.specs.Written.{overwritten}
use Rattle.report.specs.Limits.{output_size}
use Rattle.report.specs.Text.{report_text}
use Rattle.calls.specs.Call.{job_figures}
use Rattle.calls.specs.Entry.{entry}

pub record EntryLaw (job out : List ℕ) : Type 0 where
  -- a job that is read, with room for a report: the bytes written, which are the report of the rules
  pub report : (j : Job) → read_job job ≡ accepted j → output_size ≤ length out →
      entry job out ≡ record { result = pos (length (report_text (job_figures j))); out = overwritten (report_text (job_figures j)) out }
  -- a refusal of reading, and 8: minus its number, and the output as it was
  pub refusal : (why : Refusal) → Condition job why → entry job out ≡ record { result = neg_ℤ (pos (number_of why)); out = out }
  pub short_output : (j : Job) → read_job job ≡ accepted j → length out < output_size →
      entry job out ≡ record { result = neg_ℤ (pos 8); out = out }
