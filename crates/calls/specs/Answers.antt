-- What a call answers (RULES "Calls"): what is asked for, or a refusal by its number and line; and how the code's answers say that.
use Rattle.std.specs.Prelude.{ℕ, Ok, Err}
use Rattle.std.specs.Prelude as Std
use Rattle.query.specs.Figures.{Figures}
use Rattle.query.specs.Order.{Priced}
use Rattle.query.specs.Estimate as Query
use Rattle.refusal.specs.Refusal.{number_of, line_of}
use Rattle.refusal.specs.declared.Refusal.{Refusal}
use Rattle.report.specs.Report.{report_figures}
use Rattle.priced_place.specs.ObjectProblem.{priced_of}
use Rattle.priced_place.specs.declared.PricedPlace.{PricedPlace}
use Rattle.calls.specs.declared.Answer.{Answer}
use Rattle.calls.specs.declared.Answer.TheVariants.{Report, Refused}
use Rattle.calls.specs.declared.Estimate.{Estimate}
use Rattle.job.specs.Format.{Job, Result, refused, accepted}
use Rattle.job.specs.declared.Job as Held

pub data AnswerOf (A : Type 0) : Type 0 where
  gives : A → AnswerOf A
  refuses : ℕ → ℕ → AnswerOf A

abbrev pub refusal : {A : Type 0} → Refusal → AnswerOf A
refusal why = refuses (number_of why) (line_of why)

-- of a job as it was read: something of an accepted job, or the job's own refusal
unfoldable pub for_accepted : {A : Type 0} → (Job → A) → Result → AnswerOf A
for_accepted f (refused why) = refusal why
for_accepted f (accepted job) = gives (f job)

-- of a result of the code, by what its value means
abbrev pub answer_of : {A B : Type 0} → (A → B) → Std.Result A Refusal → AnswerOf B
answer_of meant (Ok a) = gives (meant a)
answer_of meant (Err why) = refusal why

-- the call `report`: the figures of a report
abbrev pub report_answer : Answer → AnswerOf Figures
report_answer (Report r) = gives (report_figures r)
report_answer (Refused why) = refusal why

-- `exhaustive`: a place with its cost
abbrev pub cheapest_answer : Std.Result PricedPlace Refusal → AnswerOf Priced
cheapest_answer = answer_of priced_of

-- `estimate`: four numbers
abbrev pub estimate_numbers : Estimate → Query.Estimate
estimate_numbers e = record { across = e.across; deep = e.deep; limit = e.limit; cells = e.cells }

abbrev pub estimated_answer : Std.Result Estimate Refusal → AnswerOf Query.Estimate
estimated_answer = answer_of estimate_numbers

-- `read`: the job as the code holds it
abbrev pub read_answer : Std.Result Held.Job Refusal → AnswerOf Held.Job
read_answer = answer_of (λ job. job)

-- `write`: the number of bytes written
abbrev pub written_answer : Std.Result ℕ Refusal → AnswerOf ℕ
written_answer = answer_of (λ count. count)

-- a change: nothing more than that it is made
abbrev pub change_answer : Std.Result (Unit {0}) Refusal → AnswerOf (Unit {0})
change_answer = answer_of (λ u. u)
