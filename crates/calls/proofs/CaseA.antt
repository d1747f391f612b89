-- The rows of specs/CaseA.antt, by computation.
use mathlib.Core.Path.{refl}
use mathlib.Core.List.{flat_map}
use Rattle.text.specs.Ascii.{bytes}
use Rattle.calls.specs.Call.{report_call}
use Rattle.calls.specs.Entry.{entry}
use Rattle.calls.specs.Program.{answer_text}
use Rattle.calls.specs.CheapestCall.{exhaustive_call}
use Rattle.calls.specs.CaseA.{CaseA}

pub case_a_law : CaseA
unfolding report_call entry answer_text exhaustive_call bytes flat_map
case_a_law = record {
  report_done = refl;
  report_just_enough = refl;
  report_small_space = refl;
  report_stopped = refl;
  report_refused = refl;
  entry_done = refl;
  entry_most_rounds = refl;
  entry_short = refl;
  entry_refused = refl;
  program_done = refl;
  program_most_rounds = refl;
  program_refused = refl;
  exhaustive_done = refl;
  exhaustive_refused = refl;
}
