-- The rows of specs/EstimateTable.antt, by computation.
use mathlib.Core.Path.{refl}
use mathlib.Core.List.{flat_map}
use Rattle.text.specs.Ascii.{bytes}
use Rattle.job.specs.Spelling.{spell}
use Rattle.calls.specs.Call.{report_call}
use Rattle.calls.specs.Entry.{entry}
use Rattle.calls.specs.Program.{answer_text}
use Rattle.calls.specs.EstimateCall.{estimate_call}
use Rattle.calls.specs.EstimateTable.{EstimateTable, diagonal}

pub estimate_table : EstimateTable
unfolding estimate_call report_call entry answer_text bytes flat_map spell diagonal
estimate_table = record {
  A = refl;
  a_0 = refl;
  a_1 = refl;
  a_2 = refl;
  a_3 = refl;
  a_most = refl;
  B = refl;
  C = refl;
  d_0 = refl;
  d_1 = refl;
  out_of_reach = refl;
  axis_x = refl;
  axis_y = refl;
  most = refl;
  refused_1 = refl;
  refused_2 = refl;
  refused_3 = refl;
  refused_4 = refl;
  refused_5 = refl;
  refused_6 = refl;
  axis_14 = refl;
  axis_15 = refl;
  most_5004 = refl;
  most_5005 = refl;
  most_entry = refl;
  most_program = refl;
}
