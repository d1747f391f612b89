-- The rows of specs/AnswerRows.antt, by computation.
use mathlib.Core.Path.{refl}
use Rattle.calls.specs.AnswerRows.{AnswerRows}

pub answer_rows : AnswerRows
answer_rows = record {
  report_done = refl;
  report_stopped = refl;
  report_refused = refl;
  report_other = refl;
  exhaustive = refl;
  exhaustive_refused = refl;
  exhaustive_other = refl;
  estimate = refl;
  place = refl;
  stop = refl;
  place_held = refl;
  stop_held = refl;
}
