-- What the parts of the call `report` (RULES "Calls") answer and leave.
use Rattle.std.specs.Prelude.{ℕ, ◌≤◌, ◌≡◌, Bool, cond, List, [], ℤ, Ok, Err}
use Rattle.std.specs.Prelude as Std
use Rattle.query.specs.Search.{run}
use Rattle.query.specs.Figures.{Figures, figures_of}
use Rattle.refusal.specs.declared.Refusal.{Refusal}
use Rattle.job.specs.Format.{read_job}
use Rattle.report.specs.Report.{report_figures}
use Rattle.report.specs.Limits.{output_size}
use Rattle.report.specs.Text.{report_text}
use Rattle.write.specs.Written.{Overwrote}
use Rattle.report.specs.declared.State.{State}
use Rattle.report.specs.declared.State.TheVariants.{Done, Stopped}
use Rattle.prepare.specs.declared.PreparedJob.{PreparedJob}
use Rattle.prepare.specs.ProblemRecord.{given_by, given_for}
use Rattle.priced_place.specs.Prepared.{problem_of}
use Rattle.search.specs.Answer.{found_of}
use Rattle.search.specs.declared.run.Found.{Found}
use Rattle.siting.specs.declared.Response.{Response}
use Rattle.calls.specs.Answers.{AnswerOf, answer_of}
use Rattle.calls.specs.Call.{Left}

abbrev pub state_for : Bool → State
state_for is_done = cond is_done Done Stopped

-- prepared from some job's bytes
pub record OfJob (prepared : PreparedJob) : Type 0 where
  pub job : List ℕ
  pub given : given_by (Ok prepared) ≡ given_for (read_job job)

abbrev pub response_answer : Std.Result Response Refusal → AnswerOf Figures
response_answer = answer_of (λ r. report_figures r.report)

-- what a search of the problem finds
abbrev pub found_in : PreparedJob → Found
found_in prepared = found_of (run (problem_of prepared.problem) prepared.rounds)

-- the report of that, whose text the output holds
pub record Reported (prepared : PreparedJob) (out out' : List ℕ) (response : Response) : Type 0 where
  pub figures_are : report_figures response.report ≡ figures_of prepared.before (run (problem_of prepared.problem) prepared.rounds)
  pub text : Overwrote out (report_text (report_figures response.report)) out' response.bytes

-- ---- the call
-- the text that is written, and how many bytes it has
abbrev pub text_written : Std.Result Response Refusal → List ℕ
text_written (Ok response) = report_text (report_figures response.report)
text_written (Err why) = []

abbrev pub bytes_written : Std.Result Response Refusal → ℕ
bytes_written (Ok response) = response.bytes
bytes_written (Err why) = 0

-- what a call answers and leaves of the memory that it is lent, and the bytes that it writes
pub record Responded (call : Left) (out : List ℕ) (cells' : List ℤ) (out' : List ℕ) (answer : Std.Result Response Refusal) : Type 0 where
  pub left : record { answer = response_answer answer; cells = cells'; out = out' } ≡ call
  pub filled : Overwrote out (text_written answer) out' (bytes_written answer)
  pub few : bytes_written answer ≤ output_size

-- the same of one that has no cell space: it answers as a call that has, whose cells nobody sees
abbrev pub RespondedAlone : Left → List ℕ → List ℕ → Std.Result Response Refusal → Type 0
RespondedAlone call out out' answer = Responded call out call.cells out' answer
