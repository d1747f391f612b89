-- The rows of specs/AxisTable.antt, by computation.
use mathlib.Core.Path.{refl}
use mathlib.Core.List.{flat_map}
use Rattle.text.specs.Ascii.{bytes}
use Rattle.calls.specs.Call.{report_call}
use Rattle.calls.specs.Entry.{entry}
use Rattle.calls.specs.Program.{answer_text}
use Rattle.calls.specs.CheapestCall.{exhaustive_call}
use Rattle.calls.specs.AxisTable.{AxisTable}

pub axis_table : AxisTable
unfolding report_call entry answer_text exhaustive_call bytes flat_map
axis_table = record {
  ends = refl;
  beyond = refl;
  no_form = refl;
  form_before_range = refl;
  twice = refl;
  elsewhere = refl;
  ends_early = refl;
  no_end = refl;
  later_lines_law = refl;
  earlier_line = refl;
  report_done = refl;
  report_stopped = refl;
  entry_done = refl;
  program_done = refl;
  program_refused = refl;
  program_largest = refl;
  exhaustive_done = refl;
  spelled_out = refl;
}
