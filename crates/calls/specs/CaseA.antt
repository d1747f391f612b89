-- Rows of case A (RULES "Worked cases") through each call that searches, from its bytes to all that the call answers and leaves.
use Rattle.std.specs.Prelude.{ℕ, ◌≡◌, List, [], ◌∷◌, ◌++◌, map, pos, negsuc, replicate, set}
use Rattle.query.specs.Figures.{done, stopped}
use Rattle.query.specs.Marked.{at, report}
use Rattle.text.specs.Ascii.{bytes}
use Rattle.calls.specs.Answers.{gives, refuses}
use Rattle.calls.specs.Call.{report_call}
use Rattle.calls.specs.Entry.{entry}
use Rattle.calls.specs.Program.{answer_text}
use Rattle.calls.specs.CheapestCall.{exhaustive_call}
use Rattle.calls.specs.RefusalTable.{case_a, ended}

abbrev pub printed : List ℕ
printed = bytes "state=done\nat=4,3\nhigh=13\nlow=13\nbefore=34\nrounds=3\n"

abbrev pub printed_first : List ℕ
printed_first = bytes "state=stopped\nat=4,2\nhigh=16\nlow=4\nbefore=34\nrounds=1\n"

-- the lent memory holds other numbers before
pub record CaseA : Type 0 where
  pub report_done : report_call (ended case_a) (replicate 55 (pos 9)) (replicate 130 7)
      ≡ record { answer = gives (report done (at 4 3) 13 (pos 13) 34 3); cells = replicate 55 (pos 0); out = printed ++ replicate 78 7 }
  pub report_just_enough : report_call (ended case_a) (replicate 20 (pos 9)) (replicate 128 7)
      ≡ record { answer = gives (report done (at 4 3) 13 (pos 13) 34 3); cells = replicate 20 (pos 0); out = printed ++ replicate 76 7 }
  pub report_small_space : report_call (ended case_a) (replicate 19 (pos 9)) (replicate 128 7)
      ≡ record { answer = refuses 7 0; cells = replicate 19 (pos 9); out = replicate 128 7 }
  pub report_stopped : report_call (ended (set case_a 6 "rounds=1")) (replicate 12 (pos 9)) (replicate 128 7)
      ≡ record {
        answer = gives (report stopped (at 4 2) 16 (pos 4) 34 1);
        cells = map pos (4 ∷ 2 ∷ 8 ∷ 8 ∷ 4 ∷ 2 ∷ 2 ∷ 4 ∷ 8 ∷ 8 ∷ 0 ∷ 0 ∷ []);
        out = printed_first ++ replicate 74 7;
      }
  pub report_refused : report_call [] (replicate 3 (pos 9)) (replicate 5 7)
      ≡ record { answer = refuses 2 1; cells = replicate 3 (pos 9); out = replicate 5 7 }
  pub entry_done : entry (ended case_a) (replicate 130 7) ≡ record { result = pos 52; out = printed ++ replicate 78 7 }
  pub entry_most_rounds : entry (ended (set case_a 6 "rounds=1000")) (replicate 128 7)
      ≡ record { result = pos 52; out = printed ++ replicate 76 7 }
  pub entry_short : entry (ended case_a) (replicate 127 7) ≡ record { result = negsuc 7; out = replicate 127 7 }
  pub entry_refused : entry [] (replicate 128 7) ≡ record { result = negsuc 1; out = replicate 128 7 }
  pub program_done : answer_text (ended case_a) ≡ printed
  pub program_most_rounds : answer_text (ended (set case_a 6 "rounds=1000")) ≡ printed
  pub program_refused : answer_text [] ≡ bytes "refused=2\nline=1\n"
  pub exhaustive_done : exhaustive_call (ended case_a) ≡ gives (record { at = at 4 3; cost = 13 })
  pub exhaustive_refused : exhaustive_call [] ≡ refuses 2 1
