-- How long the text of a report and of a refusal is at most (RULES "Report").
use Rattle.std.specs.Prelude.{ℕ, ◌≡◌, ◌≤◌, pos, neg_ℤ, length}
use Rattle.query.specs.Figures.{Figures, stopped}
use Rattle.query.specs.Range.{coordinate_limit, cost_limit, rounds_limit, FiguresInRange}
use Rattle.refusal.specs.Refusal.{number_of, line_of}
use Rattle.refusal.specs.declared.Refusal.{Refusal}
use Rattle.report.specs.Text.{report_text, refusal_text}

-- the bytes of output that a report asks for
abbrev pub output_size : ℕ
output_size = 128

-- figures at the ends of their ranges. No deck has all of them at once: where low is the largest cost no place saves anything, and the
-- report is done
abbrev pub widest : Figures
widest = record {
  state = stopped;
  at = record { x = neg_ℤ (pos coordinate_limit); y = neg_ℤ (pos coordinate_limit) };
  high = cost_limit;
  low = pos cost_limit;
  before = cost_limit;
  rounds = rounds_limit;
}

-- figures in range have a report that fits, of at most 104 bytes; every refusal has at most 36
pub record ReportFits : Type 0 where
  pub report_fits : (f : Figures) → FiguresInRange rounds_limit f → length (report_text f) ≤ output_size
  pub report_longest : (f : Figures) → FiguresInRange rounds_limit f → length (report_text f) ≤ 104
  pub report_widest : length (report_text widest) ≡ 104
  pub refusal_longest : (why : Refusal) → length (refusal_text (number_of why) (line_of why)) ≤ 36
