-- The rows of specs/ReportVectors.antt, by computation.
use mathlib.Core.Path.{refl}
use Rattle.query.specs.Figures.{figures}
use Rattle.text.specs.Ascii.{bytes}
use Rattle.report.specs.Text.{report_text, refusal_text}
use Rattle.report.specs.ReportVectors.{ReportVectors}

pub vectors : ReportVectors
unfolding report_text refusal_text figures bytes
vectors = record {
  case_a_law = refl;
  case_a_0 = refl;
  seven_digits = refl;
  ten_digits = refl;
  most_digits = refl;
  largest_cost = refl;
  too_long = refl;
  malformed = refl;
  full = refl;
}
