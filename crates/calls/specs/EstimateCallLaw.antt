-- What the call `estimate` is held to (RULES "Change 3"), over every job's bytes.
use Rattle.std.specs.Prelude.{ℕ, ◌*◌, ◌≤◌, ◌<◌, ◌≡◌, ◌↔◌, List, ℤ, length}
use Rattle.query.specs.Figures.{Figures}
use Rattle.query.specs.Estimate.{Estimate, estimate}
use Rattle.query.specs.Laws.{EstimateLaw}
use Rattle.refusal.specs.Refusal.{number_of, line_of}
use Rattle.refusal.specs.declared.Refusal.{Refusal}
use Rattle.job.specs.Format.{Job, accepted, read_job}
use Rattle.job.specs.Meaning.{Condition}
use Rattle.calls.specs.Answers.{gives, refuses, refusal}
use Rattle.calls.specs.Call.{report_call}
use Rattle.calls.specs.EstimateCall.{estimate_call}

pub record EstimateCallLaw (job : List ℕ) : Type 0 where
  -- the refusals of reading, each exactly under its condition, and no other number and line; so those of the call `report` with the same
  -- bytes
  pub refused_exactly : (why : Refusal) → (estimate_call job ≡ refusal why) ↔ Condition job why
  pub refused_listed : (number line : ℕ) → estimate_call job ≡ refuses number line → (why : Refusal)
      × (number ≡ number_of why) × (line ≡ line_of why)
  pub own_refusal : (number line : ℕ) → estimate_call job ≡ refuses number line → (cells : List ℤ) (out : List ℕ) →
      (report_call job cells out).answer ≡ refuses number line
  -- an accepted job gets the estimate of its deck and rounds; what the search of the deck keeps to by it
  pub given : (j : Job) → read_job job ≡ accepted j → estimate_call job ≡ gives (estimate j.deck j.rounds)
  pub law : (j : Job) → read_job job ≡ accepted j → EstimateLaw j.deck j.rounds
  -- the call `report` gives 7 exactly where the cell space has fewer than five numbers for each of these cells
  pub small_space : (e : Estimate) → estimate_call job ≡ gives e → (cells : List ℤ) (out : List ℕ) →
      ((report_call job cells out).answer ≡ refuses 7 0) ↔ (length cells < 5 * e.cells)
  -- and makes no more cuts than the limit
  pub limit : (e : Estimate) → estimate_call job ≡ gives e → (cells : List ℤ) (out : List ℕ) (f : Figures) →
      (report_call job cells out).answer ≡ gives f → f.rounds ≤ e.limit
