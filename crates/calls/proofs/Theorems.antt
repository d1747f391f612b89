-- The theorems of specs/Theorems.antt.
use Rattle.query.proofs.QueryTheorems.{query_theorems}
use Rattle.job.proofs.Meaning.{accepted_law, refused_law, spelling_law}
use Rattle.job.proofs.JobVectors as JobVectors
use Rattle.text.proofs.DecimalRows as DecimalRows
use Rattle.report.proofs.Fits.{report_fits}
use Rattle.report.proofs.ReportVectors as ReportVectors
use Rattle.calls.specs.Theorems.{Theorems}
use Rattle.calls.proofs.Promises.{promises}
use Rattle.calls.proofs.EntryLaw.{entry_law}
use Rattle.calls.proofs.ProgramLaw.{program_law}
use Rattle.calls.proofs.ExhaustiveCall.{exhaustive_call_law}
use Rattle.calls.proofs.EstimateCall.{estimate_call_law}
use Rattle.calls.proofs.SavingLaw.{read_law, write_law}
use Rattle.calls.proofs.RecordLaw.{record_law}
use Rattle.calls.proofs.ChangeLaw.{change_law}
use Rattle.calls.proofs.RunLaw.{run_law}
use Rattle.calls.proofs.CallRefusals.{call_refusals}
use Rattle.calls.proofs.RefusalTable.{refusal_table}
use Rattle.calls.proofs.CaseA.{case_a_law}
use Rattle.calls.proofs.WriteTable.{write_table}
use Rattle.calls.proofs.RecordTable.{record_table}
use Rattle.calls.proofs.ChangeTable.{change_table}
use Rattle.calls.proofs.AxisTable.{axis_table}
use Rattle.calls.proofs.EstimateTable.{estimate_table}
use Rattle.calls.proofs.AnswerRows.{answer_rows}

pub theorems : Theorems
theorems = record {
  promises = promises;
  entry = entry_law;
  program = program_law;
  exhaustive = exhaustive_call_law;
  read = read_law;
  write = write_law;
  records = record_law;
  changes = change_law;
  runs = run_law;
  reading = accepted_law;
  refusing = refused_law;
  estimate = estimate_call_law;
  refusals = call_refusals;
  spelling = spelling_law;
  report_fits = report_fits;
  refusal_table = refusal_table;
  case_a_law = case_a_law;
  write_table = write_table;
  record_table = record_table;
  change_table = change_table;
  axis_table = axis_table;
  estimate_table = estimate_table;
  decimal_rows = DecimalRows.rows;
  answer_rows = answer_rows;
  job_vectors = JobVectors.vectors;
  report_vectors = ReportVectors.vectors;
  rules = query_theorems;
}
