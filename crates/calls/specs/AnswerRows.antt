-- Rows of which number in the code's answers and arguments is which (RULES "Figures", "Calls"). All of them differ, so that no two can be
-- exchanged.
use Rattle.std.specs.Prelude.{◌≡◌, pos, Ok, Err}
use Rattle.query.specs.Figures.{done, stopped}
use Rattle.query.specs.Marked.{at, report}
use Rattle.query.specs.Rows.{needs}
use Rattle.deck.specs.Values.{place_of, place_record, stop_of, stop_record}
use Rattle.report.specs.declared.State.TheVariants.{Done, Stopped}
use Rattle.refusal.specs.declared.Refusal.TheVariants.{Malformed, OutOfRange, NoPosts, NoStops}
use Rattle.calls.specs.declared.Answer.TheVariants.{Report, Refused}
use Rattle.calls.specs.Answers.{gives, refuses, report_answer, cheapest_answer, estimated_answer}

pub record AnswerRows : Type 0 where
  pub report_done : report_answer (Report
      (record { state = Done; x = pos 1; y = pos 2; high = 3; low = pos 4; before = 5; rounds = 6 }))
      ≡ gives (report done (at 1 2) 3 (pos 4) 5 6)
  pub report_stopped : report_answer (Report
      (record { state = Stopped; x = pos 1; y = pos 2; high = 3; low = pos 4; before = 5; rounds = 6 }))
      ≡ gives (report stopped (at 1 2) 3 (pos 4) 5 6)
  pub report_refused : report_answer (Refused (Malformed 7)) ≡ refuses 2 7
  pub report_other : report_answer (Refused NoPosts) ≡ refuses 5 0
  pub exhaustive : cheapest_answer (Ok (record { at = record { x = pos 1; y = pos 2 }; cost = 3 }))
      ≡ gives (record { at = at 1 2; cost = 3 })
  pub exhaustive_refused : cheapest_answer (Err (OutOfRange 7)) ≡ refuses 3 7
  pub exhaustive_other : cheapest_answer (Err NoStops) ≡ refuses 6 0
  pub estimate : estimated_answer (Ok (record { across = 1; deep = 2; limit = 3; cells = 4 })) ≡ gives (needs 1 2 3 4)
  -- the values of records, and the arguments of changes
  pub place : place_of (record { x = pos 1; y = pos 2 }) ≡ at 1 2
  pub stop : stop_of (record { at = record { x = pos 1; y = pos 2 }; visits = 3 }) ≡ record { at = at 1 2; visits = 3 }
  pub place_held : place_record (at 1 2) ≡ record { x = pos 1; y = pos 2 }
  pub stop_held : stop_record (record { at = at 1 2; visits = 3 }) ≡ record { at = record { x = pos 1; y = pos 2 }; visits = 3 }
