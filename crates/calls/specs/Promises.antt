-- The three promises of the call `report` (RULES "Promise 1", "Promise 2", "Promise 3"), over every job's bytes and all that is lent.
-- A reviewer may start here; Theorems.antt states that they hold.
use Rattle.std.specs.Prelude.{ℕ, suc, ◌≤◌, ◌<◌, ◌≡◌, Bool, ◌↔◌, List, ℤ, length, ◌≤ℤ◌}
use Rattle.query.specs.Figures.{Figures, figures}
use Rattle.query.specs.Space.{space, space_needed}
use Rattle.query.specs.Promise3.{Promise3}
use Rattle.refusal.specs.Refusal.{number_of, line_of}
use Rattle.refusal.specs.declared.Refusal.{Refusal}
use Rattle.refusal.specs.declared.Refusal.TheVariants.{SmallSpace, ShortOutput}
use Rattle.job.specs.Format.{Job, refused, accepted, missing_axis, read_job}
use Rattle.job.specs.Spelling.{spell, Spells, Allowed}
use Rattle.job.specs.Meaning.{Condition}
use Rattle.write.specs.Written.{overwritten}
use Rattle.report.specs.Limits.{output_size}
use Rattle.report.specs.Text.{report_text}
use Rattle.calls.specs.Answers.{gives, refuses, refusal}
use Rattle.calls.specs.Call.{job_figures, report_call}
use Rattle.query.specs.Range.{rounds_limit}

-- a job is accepted with what is lent (RULES "Job"): its bytes are read as j, and enough is lent for it
pub record Accepted (job : List ℕ) (cells : List ℤ) (out : List ℕ) (j : Job) : Type 0 where
  pub read : read_job job ≡ accepted j
  pub space : space_needed j.deck j.rounds ≤ length cells
  pub output : output_size ≤ length out

-- ---- promise 1
-- a refusal applies to a job and to what is lent (RULES "Refusals"): one of the job's own, which reading gives; then 7, then 8
pub data Applies (job : List ℕ) (cells : List ℤ) (out : List ℕ) : Refusal → Type 0 where
  in_reading : {why : Refusal} → Condition job why → Applies job cells out why
  small_space : (j : Job) → read_job job ≡ accepted j → length cells < space_needed j.deck j.rounds → Applies job cells out SmallSpace
  short_output : (j : Job) → read_job job ≡ accepted j → space_needed j.deck j.rounds ≤ length cells → length out < output_size →
      Applies job cells out ShortOutput

-- that the call ends is no clause: every function of Rattle is proved to end
pub record Promise1 (job : List ℕ) (cells : List ℤ) (out : List ℕ) : Type 0 where
  -- a report exactly where the job is accepted with what is lent
  pub reported_exactly : ((f : Figures) × ((report_call job cells out).answer ≡ gives f)) ↔ ((j : Job) × Accepted job cells out j)
  -- each refusal, with its number and line, exactly under its condition; and no other number and line
  pub refused_exactly : (why : Refusal) → ((report_call job cells out).answer ≡ refusal why) ↔ Applies job cells out why
  pub refused_listed : (number line : ℕ) → (report_call job cells out).answer ≡ refuses number line → (why : Refusal)
      × (number ≡ number_of why) × (line ≡ line_of why)
  -- a refusal leaves the cell space and the output as they were
  pub refused_cells : (number line : ℕ) → (report_call job cells out).answer ≡ refuses number line
      → (report_call job cells out).cells ≡ cells
  pub refused_out : (number line : ℕ) → (report_call job cells out).answer ≡ refuses number line → (report_call job cells out).out ≡ out

-- ---- promise 2
-- the figures of the rules for j, whole: as the answer, as the text in the output, and with the live cells in the cell space
pub record Reported (job : List ℕ) (cells : List ℤ) (out : List ℕ) (j : Job) : Type 0 where
  pub answer : (report_call job cells out).answer ≡ gives (job_figures j)
  pub text : (report_call job cells out).out ≡ overwritten (report_text (job_figures j)) out
  pub text_fits : length (report_text (job_figures j)) ≤ output_size
  pub cell_space : (report_call job cells out).cells ≡ space j.deck j.rounds (length cells)

pub record Promise2 (job : List ℕ) (cells : List ℤ) (out : List ℕ) : Type 0 where
  -- bytes are read as a job exactly where they spell it and it is allowed; each refusal of reading is given exactly under its condition
  pub read_exactly : (j : Job) → (read_job job ≡ accepted j) ↔ (Spells missing_axis job j × Allowed j)
  pub fault_exactly : (why : Refusal) → (read_job job ≡ refused why) ↔ Condition job why
  -- an accepted job gets the figures of the rules
  pub reported : (j : Job) → Accepted job cells out j → Reported job cells out j

-- ---- promise 3
-- the job with a round more
abbrev pub one_more : Job → Job
one_more j = record { deck = j.deck; rounds = suc j.rounds }

-- of the figures f in the report of an accepted job j
pub record Promise3Report (j : Job) (f : Figures) : Type 0 where
  -- place, high, low, done, rounds and the limit of cuts
  pub law : Promise3 j.deck j.rounds f
  -- a report of that job with a round more has a low that is no smaller and a high that is no larger
  pub one_more_low : (job : List ℕ) (cells : List ℤ) (out : List ℕ) (more : Figures) → Accepted job cells out (one_more j) →
      (report_call job cells out).answer ≡ gives more → f.low ≤ℤ more.low
  pub one_more_high : (job : List ℕ) (cells : List ℤ) (out : List ℕ) (more : Figures) → Accepted job cells out (one_more j) →
      (report_call job cells out).answer ≡ gives more → more.high ≤ f.high
  -- below the limit of rounds there is such a job: each spelling of j, but for the rounds number
  pub one_more_read : (carried : Bool) → Spells missing_axis (spell carried j) j → j.rounds < rounds_limit →
      read_job (spell carried (one_more j)) ≡ accepted (one_more j)
  -- beyond it no job can ask for the rounds, and the rules keep the promise all the same
  pub every_n : (n : ℕ) → Promise3 j.deck n (figures j.deck n)

-- the three together
pub record Promises (job : List ℕ) (cells : List ℤ) (out : List ℕ) : Type 0 where
  pub promise_1 : Promise1 job cells out
  pub promise_2 : Promise2 job cells out
  pub promise_3 : (j : Job) (f : Figures) → Accepted job cells out j → (report_call job cells out).answer ≡ gives f → Promise3Report j f
