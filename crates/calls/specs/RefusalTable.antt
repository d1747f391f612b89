-- Rows of the call `report` for each refusal (RULES "Refusals", "Worked cases"), from a job's bytes and what is lent to the number and the
-- line, 0 and 0 for a report; and both sides of the end of every range.
use Rattle.std.specs.Prelude.{ℕ, ◌-◌, ◌≡◌, pos, replicate, set, take, drop}
use Prim.Native.String.{String}
use mathlib.Core.List.{List, [], ◌∷◌, ◌++◌, map, flat_map}
use Rattle.text.specs.Ascii.{bytes, newline}
use Rattle.calls.specs.Answers.{AnswerOf, gives, refuses}
use Rattle.calls.specs.Call.{report_call}

-- the lines of case A
abbrev pub case_a : List String
case_a = "area=2,2,8,8" ∷ "posts=1" ∷ "post=0,0" ∷ "stops=2" ∷ "stop=4,3,2" ∷ "stop=8,12,1" ∷ "rounds=10" ∷ []

-- case A with other lines behind its line n
abbrev pub behind : ℕ → List String → List String
behind n lines = take n case_a ++ (lines ++ drop n case_a)

-- lines as bytes
abbrev pub ended : List String → List ℕ
ended lines = flat_map (λ line. bytes line ++ (newline ∷ [])) lines

-- a job of so many posts, and one of so many stops, with no rounds
abbrev pub many_posts : String → ℕ → List ℕ
many_posts count n = ended (take 1 case_a ++ (count ∷ replicate n "post=0,0") ++ ("stops=1" ∷ "stop=4,3,2" ∷ "rounds=0" ∷ []))

abbrev pub many_stops : String → ℕ → List ℕ
many_stops count n = ended (take 3 case_a ++ (count ∷ replicate n "stop=4,3,2") ++ ("rounds=0" ∷ []))

abbrev pub number_and_line : {A : Type 0} → AnswerOf A → ℕ × ℕ
number_and_line (gives a) = (0, 0)
number_and_line (refuses number line) = (number, line)

-- what the call answers with so many numbers of cell space and so many bytes of output
abbrev pub answer_to : List ℕ → ℕ → ℕ → ℕ × ℕ
answer_to job cells out = number_and_line (report_call job (replicate cells (pos 0)) (replicate out 0)).answer

-- with enough for every deck with at most 10 rounds
abbrev pub asked : List ℕ → ℕ × ℕ
asked job = answer_to job 55 128

-- case A with other lines in place of its line n, one after another
abbrev pub changed : ℕ → List String → List (ℕ × ℕ)
changed n lines = map (λ line. asked (ended (set case_a (n - 1) line))) lines

pub record RefusalTable : Type 0 where
  pub case_a_law : asked (ended case_a) ≡ (0, 0)
  -- 1: more than 16,384 bytes
  pub too_long : asked (replicate 16385 97) ≡ (1, 0)
  pub longest : asked (replicate 16384 97) ≡ (2, 1)
  -- 2: a line without its form, one missing, or one too many
  pub empty_file : asked [] ≡ (2, 1)
  pub byte_13 : changed 3 ("post=0,0\r" ∷ []) ≡ (2, 3) ∷ []
  pub no_form : changed 6 ("stop=8,12" ∷ "stop=8,12,1,1" ∷ "stop=8,12,01" ∷ "stop=8,-0,1" ∷ "stop=8,+1,1" ∷ "stop=8,1000000000,1"
      ∷ "Stop=8,12,1" ∷ "" ∷ []) ≡ replicate 8 (2, 6)
  pub missing : asked (ended (take 5 case_a ++ drop 6 case_a)) ≡ (2, 6)
  pub ends_early : asked (ended (take 6 case_a)) ≡ (2, 7)
  pub too_much : asked (ended (case_a ++ ("rounds=10" ∷ []))) ≡ (2, 8)
  pub no_end : asked (ended (take 6 case_a) ++ bytes "rounds=10") ≡ (2, 7)
  pub no_end_beyond : asked (ended (take 6 case_a) ++ bytes "rounds=1001") ≡ (2, 7)
  -- 3: a line with its form, and a value out of range. The ends of each range, and the numbers beyond them
  pub area_ends : changed 1 ("area=-20000,-20000,20000,20000" ∷ "area=-20000,-20000,-20000,-20000" ∷ "area=20000,20000,20000,20000" ∷ [])
      ≡ replicate 3 (0, 0)
  pub area_below : changed 1 ("area=-20001,2,8,8" ∷ "area=2,-20001,8,8" ∷ "area=2,2,-20001,8" ∷ "area=2,2,8,-20001" ∷ [])
      ≡ replicate 4 (3, 1)
  pub area_above : changed 1 ("area=20001,2,8,8" ∷ "area=2,20001,8,8" ∷ "area=2,2,20001,8" ∷ "area=2,2,8,20001" ∷ []) ≡ replicate 4 (3, 1)
  pub post_ends : changed 3 ("post=-20000,20000" ∷ "post=20000,-20000" ∷ []) ≡ replicate 2 (0, 0)
  pub post_beyond : changed 3 ("post=-20001,0" ∷ "post=20001,0" ∷ "post=0,-20001" ∷ "post=0,20001" ∷ []) ≡ replicate 4 (3, 3)
  pub stop_ends : changed 6 ("stop=-20000,20000,1" ∷ "stop=20000,-20000,65535" ∷ []) ≡ replicate 2 (0, 0)
  pub stop_beyond : changed 6 ("stop=-20001,0,1" ∷ "stop=20001,0,1" ∷ "stop=0,-20001,1" ∷ "stop=0,20001,1" ∷ []) ≡ replicate 4 (3, 6)
  pub nine_digits_lem : changed 6 ("stop=-999999999,0,1" ∷ "stop=0,0,999999999" ∷ []) ≡ replicate 2 (3, 6)
  pub visits_beyond : changed 6 ("stop=8,12,0" ∷ "stop=8,12,-1" ∷ "stop=8,12,65536" ∷ []) ≡ replicate 3 (3, 6)
  pub posts_beyond : changed 2 ("posts=-1" ∷ "posts=65" ∷ []) ≡ replicate 2 (3, 2)
  pub posts_64 : asked (many_posts "posts=64" 64) ≡ (0, 0)
  pub posts_65 : asked (many_posts "posts=65" 65) ≡ (3, 2)
  pub stops_beyond : changed 4 ("stops=-1" ∷ "stops=513" ∷ []) ≡ replicate 2 (3, 4)
  pub stops_512 : asked (many_stops "stops=512" 512) ≡ (0, 0)
  pub stops_513 : asked (many_stops "stops=513" 513) ≡ (3, 4)
  pub rounds_ends : answer_to (ended (set case_a 6 "rounds=1000")) 20 128 ≡ (0, 0)
  pub rounds_none : changed 7 ("rounds=0" ∷ []) ≡ (0, 0) ∷ []
  pub rounds_beyond : changed 7 ("rounds=-1" ∷ "rounds=1001" ∷ []) ≡ replicate 2 (3, 7)
  -- 2 before 3 in a line, and an earlier line before a later one
  pub form_before_range : changed 1 ("area=20001,2,8,08" ∷ []) ≡ (2, 1) ∷ []
  pub earlier_line : asked (ended ("area=20001,2,8,8" ∷ "posts=x" ∷ [])) ≡ (3, 1)
  -- 4, 5 and 6, in this order
  pub empty_area_law : changed 1 ("area=8,2,2,8" ∷ "area=2,8,8,2" ∷ []) ≡ replicate 2 (4, 0)
  pub no_posts : asked (many_posts "posts=0" 0) ≡ (5, 0)
  pub no_stops : asked (many_stops "stops=0" 0) ≡ (6, 0)
  pub four_before_five : asked (ended ("area=8,2,2,8" ∷ "posts=0" ∷ "stops=0" ∷ "rounds=0" ∷ [])) ≡ (4, 0)
  pub five_before_six : asked (ended ("area=2,2,8,8" ∷ "posts=0" ∷ "stops=0" ∷ "rounds=0" ∷ [])) ≡ (5, 0)
  -- 7 and 8, which come last. 7 by the product of gaps where it is at most rounds + 1, else by the rounds; also where no cell is live
  pub space_19 : answer_to (ended case_a) 19 128 ≡ (7, 0)
  pub space_20 : answer_to (ended case_a) 20 128 ≡ (0, 0)
  pub space_9 : answer_to (ended (set case_a 6 "rounds=1")) 9 128 ≡ (7, 0)
  pub space_10 : answer_to (ended (set case_a 6 "rounds=1")) 10 128 ≡ (0, 0)
  pub space_4 : answer_to (ended (set case_a 0 "area=5,5,5,5")) 4 128 ≡ (7, 0)
  pub space_5 : answer_to (ended (set case_a 0 "area=5,5,5,5")) 5 128 ≡ (0, 0)
  pub output_127 : answer_to (ended case_a) 20 127 ≡ (8, 0)
  pub seven_before_eight : answer_to (ended case_a) 19 127 ≡ (7, 0)
  pub six_before_seven : answer_to (many_stops "stops=0" 0) 0 0 ≡ (6, 0)
