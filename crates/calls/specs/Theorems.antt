-- All that is proved of the calls and of the rules in docs/RULES.md, with its quantifiers and hypotheses: `theorems : Theorems` in
-- proofs/Theorems.antt. That the code computes what is defined is said by the contracts of crates/siting/src/lib.rt.
use Rattle.std.specs.Prelude.{ℕ, ◌≡◌, List, ℤ}
use Rattle.query.specs.Deck.{AxisCosts}
use Rattle.query.specs.QueryTheorems.{QueryTheorems}
use Rattle.deck.specs.DeckOf.{Sized}
use Rattle.deck.specs.declared.Deck.{Deck}
use Rattle.change.specs.Change.{Change}
use Rattle.job.specs.Format.{Job, accepted, read_job}
use Rattle.job.specs.Meaning.{AcceptedLaw, RefusedLaw, SpellingLaw}
use Rattle.job.specs.JobVectors.{JobVectors}
use Rattle.text.specs.DecimalRows.{DecimalRows}
use Rattle.report.specs.Limits.{ReportFits}
use Rattle.report.specs.ReportVectors.{ReportVectors}
use Rattle.calls.specs.Promises.{Promises}
use Rattle.calls.specs.EntryLaw.{EntryLaw}
use Rattle.calls.specs.ProgramLaw.{ProgramLaw}
use Rattle.calls.specs.ExhaustiveCallLaw.{ExhaustiveCallLaw}
use Rattle.calls.specs.EstimateCallLaw.{EstimateCallLaw}
use Rattle.calls.specs.SavingLaw.{ReadLaw, WriteLaw}
use Rattle.calls.specs.RecordLaw.{RecordLaw}
use Rattle.calls.specs.ChangeLaw.{ChangeLaw}
use Rattle.calls.specs.RunLaw.{RunLaw}
use Rattle.calls.specs.CallRefusals.{CallRefusals}
use Rattle.calls.specs.RefusalTable.{RefusalTable}
use Rattle.calls.specs.CaseA.{CaseA}
use Rattle.calls.specs.WriteTable.{WriteTable}
use Rattle.calls.specs.RecordTable.{RecordTable}
use Rattle.calls.specs.ChangeTable.{ChangeTable}
use Rattle.calls.specs.AxisTable.{AxisTable}
use Rattle.calls.specs.EstimateTable.{EstimateTable}
use Rattle.calls.specs.AnswerRows.{AnswerRows}
use Rattle.refusal.specs.declared.Refusal.{Refusal}

pub record Theorems : Type 0 where
  -- the calls `report` and `exhaustive`, the C entry and the program, for any bytes and all that is lent
  pub promises : (job : List ℕ) (cells : List ℤ) (out : List ℕ) → Promises job cells out
  pub entry : (job out : List ℕ) → EntryLaw job out
  pub program : (job : List ℕ) → ProgramLaw job
  pub exhaustive : (job : List ℕ) → ExhaustiveCallLaw job
  -- reading a job, and writing every record that the code can hold (RULES "Change 1")
  pub read : (job : List ℕ) → ReadLaw job
  pub write : (deck : Deck) (rounds : ℕ) (out : List ℕ) → Sized deck → WriteLaw deck rounds out
  -- what is read, where a missing axis line means any costs in range, and what is refused, whatever it means (RULES "Job")
  pub reading : (missing : AxisCosts) (job : List ℕ) (j : Job) → AcceptedLaw missing job j
  pub refusing : (missing : AxisCosts) (job : List ℕ) (why : Refusal) → RefusedLaw missing job why
  -- the records that reading and changes make (RULES "Change 5")
  pub records : (deck : Deck) → RecordLaw deck
  -- each change of every record, and changes one after another of a record that was read (RULES "Change 6")
  pub changes : (deck : Deck) (change : Change) → ChangeLaw deck change
  pub runs : (changes : List Change) (job : List ℕ) (j : Job) → read_job job ≡ accepted j → RunLaw changes job j
  -- what a job needs (RULES "Change 3")
  pub estimate : (job : List ℕ) → EstimateCallLaw job
  -- which refusals each call can give (RULES "Calls")
  pub refusals : CallRefusals
  -- no bytes spell two allowed jobs, and every report fits the output (RULES "Job", "Report")
  pub spelling : (job : Job) → SpellingLaw job
  pub report_fits : ReportFits
  -- rows: refusals, and the worked cases that have whole bytes (RULES "Refusals", "Worked cases")
  pub refusal_table : RefusalTable
  pub case_a_law : CaseA
  pub job_vectors : JobVectors
  pub report_vectors : ReportVectors
  -- rows of writing, of records, of changes, of axis costs and of estimates
  pub write_table : WriteTable
  pub record_table : RecordTable
  pub change_table : ChangeTable
  pub axis_table : AxisTable
  pub estimate_table : EstimateTable
  -- rows of numbers as they are written, and which number in the code's answers is which
  pub decimal_rows : DecimalRows
  pub answer_rows : AnswerRows
  -- the laws of the rules, for every deck and every number of rounds
  pub rules : QueryTheorems
