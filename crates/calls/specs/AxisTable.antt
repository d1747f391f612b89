-- Rows of the axis line (RULES "Change 2"), from a job's bytes to the number and the line that it gets, 0 and 0 for a report; and a deck
-- with axis costs through each call that searches. Those of reading and writing records are in WriteTable.
use Rattle.std.specs.Prelude.{ℕ, ◌≡◌, List, [], ◌∷◌, ◌++◌, map, pos, replicate, set, take}
use Prim.Native.String.{String}
use Rattle.query.specs.Figures.{done, stopped}
use Rattle.query.specs.Marked.{at, report}
use Rattle.text.specs.Ascii.{bytes}
use Rattle.calls.specs.Answers.{gives}
use Rattle.calls.specs.Call.{report_call}
use Rattle.calls.specs.Entry.{entry}
use Rattle.calls.specs.Program.{answer_text}
use Rattle.calls.specs.CheapestCall.{exhaustive_call}
use Rattle.calls.specs.RefusalTable.{case_a, behind, ended, asked}

-- with another second line, one after another
abbrev pub second : List String → List (ℕ × ℕ)
second lines = map (λ line. asked (ended (behind 1 (line ∷ [])))) lines

-- with `axis=2,1` as its second line, and another line n
abbrev pub later : ℕ → String → ℕ × ℕ
later n line = asked (ended (set (behind 1 ("axis=2,1" ∷ [])) n line))

-- a narrow deck, on which the best place under 1,1 is 2,1, and under 1,2 is 3,1 (query/specs/Rows.antt: deck_narrow)
abbrev pub narrow : String → List ℕ
narrow rounds =
    ended ("area=1,1,3,9" ∷ "axis=2,1" ∷ "posts=1" ∷ "post=4,6" ∷ "stops=2" ∷ "stop=6,1,1" ∷ "stop=2,4,1" ∷ rounds ∷ [])

abbrev pub printed : List ℕ
printed = bytes "state=done\nat=2,4\nhigh=9\nlow=9\nbefore=15\nrounds=3\n"

pub record AxisTable : Type 0 where
  -- the ends of the range, and beyond it
  pub ends : second ("axis=1,1" ∷ "axis=1,9" ∷ "axis=9,1" ∷ "axis=9,9" ∷ []) ≡ replicate 4 (0, 0)
  pub beyond : second ("axis=0,1" ∷ "axis=1,0" ∷ "axis=10,1" ∷ "axis=1,10" ∷ "axis=-1,1" ∷ "axis=1,-1" ∷ "axis=999999999,1" ∷ [])
      ≡ replicate 7 (3, 2)
  -- two numbers behind the key, and 2 before 3 over the whole line
  pub no_form : second ("axis=1" ∷ "axis=1,1,1" ∷ "axis=01,1" ∷ "axis=1,01" ∷ "axis=1,+1" ∷ "axis=1,-0" ∷ "axis=1000000000,1" ∷ "axis="
      ∷ "axis=,1" ∷ "axis=1," ∷ "axis=1,1 " ∷ "axis 1,1" ∷ "Axis=1,1" ∷ "axis" ∷ "" ∷ []) ≡ replicate 15 (2, 2)
  pub form_before_range : second ("axis=0,x" ∷ "axis=10,01" ∷ "axis=0,1000000000" ∷ []) ≡ replicate 3 (2, 2)
  -- once, and as the second line
  pub twice : asked (ended (behind 1 ("axis=1,1" ∷ "axis=1,1" ∷ []))) ≡ (2, 3)
  pub elsewhere : map (λ n. asked (ended (behind n ("axis=1,1" ∷ [])))) (0 ∷ 2 ∷ 3 ∷ 4 ∷ 5 ∷ 6 ∷ 7 ∷ [])
      ≡ (2, 1) ∷ (2, 3) ∷ (2, 4) ∷ (2, 5) ∷ (2, 6) ∷ (2, 7) ∷ (2, 8) ∷ []
  pub ends_early : asked (ended (take 2 (behind 1 ("axis=1,1" ∷ [])))) ≡ (2, 3)
  pub no_end : map (λ text. asked (ended (take 1 case_a) ++ bytes text)) ("axis=1,1" ∷ "axis=10,1" ∷ "axis=" ∷ []) ≡ replicate 3 (2, 2)
  -- every later line's number moves by one, and an earlier line comes first
  pub later_lines_law : later 2 "posts=65" ∷ later 3 "post=0" ∷ later 4 "stops=513" ∷ later 6 "stop=8,12,0" ∷ later 7 "rounds=1001" ∷ []
      ≡ (3, 3) ∷ (2, 4) ∷ (3, 5) ∷ (3, 7) ∷ (3, 8) ∷ []
  pub earlier_line : asked (ended ("area=20001,2,8,8" ∷ "axis=1" ∷ [])) ∷ asked (ended (take 1 case_a ++ ("axis=10,1" ∷ "posts=x" ∷ [])))
      ∷ [] ≡ (3, 1) ∷ (3, 2) ∷ []
  -- through each call that searches
  pub report_done : report_call (narrow "rounds=10") (replicate 55 (pos 9)) (replicate 130 7)
      ≡ record { answer = gives (report done (at 2 4) 9 (pos 9) 15 3); cells = replicate 55 (pos 0); out = printed ++ replicate 80 7 }
  pub report_stopped : report_call (narrow "rounds=1") (replicate 12 (pos 9)) (replicate 128 7)
      ≡ record {
        answer = gives (report stopped (at 1 4) 11 (pos 6) 15 1);
        cells = map pos (1 ∷ 1 ∷ 3 ∷ 4 ∷ 6 ∷ 1 ∷ 4 ∷ 3 ∷ 9 ∷ 9 ∷ 0 ∷ 0 ∷ []);
        out = bytes "state=stopped\nat=1,4\nhigh=11\nlow=6\nbefore=15\nrounds=1\n" ++ replicate 74 7;
      }
  pub entry_done : entry (narrow "rounds=1000") (replicate 128 7) ≡ record { result = pos 50; out = printed ++ replicate 78 7 }
  pub program_done : answer_text (narrow "rounds=1000") ≡ printed
  pub program_refused : answer_text (ended (behind 1 ("axis=10,1" ∷ []))) ≡ bytes "refused=3\nline=2\n"
  -- the most stops with the most visits, as far from the only post as can be under 9,9: the largest cost
  pub program_largest : answer_text (ended ("area=-20000,-20000,-20000,-20000" ∷ "axis=9,9" ∷ "posts=1" ∷ "post=-20000,-20000" ∷ "stops=512"
      ∷ (replicate 512 "stop=20000,20000,65535" ++ ("rounds=0" ∷ []))))
      ≡ bytes "state=done\nat=-20000,-20000\nhigh=24158822400000\nlow=24158822400000\nbefore=24158822400000\nrounds=0\n"
  pub exhaustive_done : exhaustive_call (narrow "rounds=0") ≡ gives (record { at = at 2 4; cost = 9 })
  -- `axis=1,1` says what a missing line says
  pub spelled_out : report_call (ended (behind 1 ("axis=1,1" ∷ []))) (replicate 55 (pos 9)) (replicate 130 7)
      ≡ record {
        answer = gives (report done (at 4 3) 13 (pos 13) 34 3);
        cells = replicate 55 (pos 0);
        out = bytes "state=done\nat=4,3\nhigh=13\nlow=13\nbefore=34\nrounds=3\n" ++ replicate 78 7;
      }
