-- What the call `exhaustive` is held to (RULES "Exhaustive search", "Refusals"), over every job's bytes.
use Rattle.std.specs.Prelude.{ℕ, ◌≡◌, ◌↔◌, List, ℤ}
use Rattle.query.specs.Figures.{Figures, done}
use Rattle.query.specs.Problem.{problem}
use Rattle.query.specs.Exhaustive as Query
use Rattle.query.specs.ExhaustiveLaw.{ExhaustiveLaw}
use Rattle.refusal.specs.Refusal.{number_of, line_of}
use Rattle.refusal.specs.declared.Refusal.{Refusal}
use Rattle.job.specs.Format.{Job, accepted, read_job}
use Rattle.job.specs.Meaning.{Condition}
use Rattle.calls.specs.Answers.{gives, refuses, refusal}
use Rattle.calls.specs.Call.{report_call}
use Rattle.calls.specs.CheapestCall.{exhaustive_call}

pub record ExhaustiveCallLaw (job : List ℕ) : Type 0 where
  -- the refusals of reading, each exactly under its condition, and no other number and line
  pub refused_exactly : (why : Refusal) → (exhaustive_call job ≡ refusal why) ↔ Condition job why
  pub refused_listed : (number line : ℕ) → exhaustive_call job ≡ refuses number line → (why : Refusal)
      × (number ≡ number_of why) × (line ≡ line_of why)
  -- an accepted job gets the cheapest crossing, which is in the area, and of all its places the best
  pub given : (j : Job) → read_job job ≡ accepted j → exhaustive_call job ≡ gives (Query.exhaustive (problem j.deck))
  pub law : (j : Job) → read_job job ≡ accepted j → ExhaustiveLaw j.deck
  -- a report of the job whose search is done has this place and this cost
  pub done_report : (cells : List ℤ) (out : List ℕ) (f : Figures) → (report_call job cells out).answer ≡ gives f → f.state ≡ done →
      exhaustive_call job ≡ gives (record { at = f.at; cost = f.high })
