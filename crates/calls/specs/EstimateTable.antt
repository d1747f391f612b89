-- Rows of the call `estimate` (RULES "Change 3"), from a job's bytes to the four numbers or the refusal, and of refusal 7 by its cells.
use Rattle.std.specs.Prelude.{ℕ, zero, suc, ◌≡◌, false, List, [], ◌∷◌, pos, replicate, set}
use Prim.Native.String.{String}
use Rattle.query.specs.Deck.{Stop, plain}
use Rattle.query.specs.Marked.{at, rect, stop}
use Rattle.query.specs.Rows.{needs}
use Rattle.text.specs.Ascii.{bytes}
use Rattle.job.specs.Spelling.{spell}
use Rattle.calls.specs.Answers.{gives, refuses}
use Rattle.calls.specs.Entry.{entry}
use Rattle.calls.specs.Program.{answer_text}
use Rattle.calls.specs.EstimateCall.{estimate_call}
use Rattle.calls.specs.RefusalTable.{case_a, ended, many_posts, many_stops, answer_to}

-- case A with another number of rounds
abbrev pub with_rounds : String → List ℕ
with_rounds line = ended (set case_a 6 line)

-- cases B, C and D
abbrev pub case_b : List String
case_b = "area=0,0,10,0" ∷ "posts=1" ∷ "post=0,50" ∷ "stops=2" ∷ "stop=0,0,1" ∷ "stop=10,0,1" ∷ "rounds=10" ∷ []

abbrev pub case_c : List String
case_c = set case_a 0 "area=5,5,5,5"

abbrev pub case_d : String → List String
case_d rounds = "area=0,0,9,0" ∷ "posts=1" ∷ "post=5,1" ∷ "stops=1" ∷ "stop=5,0,1" ∷ rounds ∷ []

-- two stops to the right of the area: both, one or none is within reach of it
abbrev pub beside : String → List ℕ
beside axis = ended ("area=0,0,2,4" ∷ axis ∷ "posts=1" ∷ "post=4,5" ∷ "stops=2" ∷ "stop=6,3,1" ∷ "stop=8,1,1" ∷ "rounds=10" ∷ [])

-- stops at n,n down to 1,1
unfoldable pub diagonal : ℕ → List Stop
diagonal zero = []
diagonal (suc n) = stop (suc n) (suc n) 1 ∷ diagonal n

-- 32 gaps each way and 1,000 rounds, of which it takes 10, since a stop of many visits stands in the corner
abbrev pub many_gaps : List ℕ
many_gaps = spell false (record {
  deck = record { axis = plain; area = rect 0 0 32 32; posts = at 100 100 ∷ []; stops = stop 0 0 1000 ∷ diagonal 31 };
  rounds = 1000;
})

pub record EstimateTable : Type 0 where
  -- the worked cases; A also with 10 and with the most rounds
  pub A : estimate_call (ended case_a) ≡ gives (needs 2 2 3 4)
  pub a_0 : estimate_call (with_rounds "rounds=0") ≡ gives (needs 2 2 3 1)
  pub a_1 : estimate_call (with_rounds "rounds=1") ≡ gives (needs 2 2 3 2)
  pub a_2 : estimate_call (with_rounds "rounds=2") ≡ gives (needs 2 2 3 3)
  pub a_3 : estimate_call (with_rounds "rounds=3") ≡ gives (needs 2 2 3 4)
  pub a_most : estimate_call (with_rounds "rounds=1000") ≡ gives (needs 2 2 3 4)
  pub B : estimate_call (ended case_b) ≡ gives (needs 1 1 0 1)
  pub C : estimate_call (ended case_c) ≡ gives (needs 1 1 0 1)
  pub d_0 : estimate_call (ended (case_d "rounds=0")) ≡ gives (needs 2 1 1 1)
  pub d_1 : estimate_call (ended (case_d "rounds=1")) ≡ gives (needs 2 1 1 2)
  -- stops out of reach: a post stands at one in the area; by axis costs
  pub out_of_reach : estimate_call (ended (set case_a 2 "post=4,3")) ≡ gives (needs 1 1 0 1)
  pub axis_x : estimate_call (beside "axis=2,1") ≡ gives (needs 1 1 0 1)
  pub axis_y : estimate_call (beside "axis=1,2") ≡ gives (needs 1 3 2 3)
  -- more gaps than rounds
  pub most : estimate_call many_gaps ≡ gives (needs 32 32 1023 1001)
  -- the job's own refusals
  pub refused_1 : estimate_call (replicate 16385 97) ≡ refuses 1 0
  pub refused_2 : estimate_call [] ≡ refuses 2 1
  pub refused_3 : estimate_call (with_rounds "rounds=1001") ≡ refuses 3 7
  pub refused_4 : estimate_call (ended (set case_a 0 "area=8,2,2,8")) ≡ refuses 4 0
  pub refused_5 : estimate_call (many_posts "posts=0" 0) ≡ refuses 5 0
  pub refused_6 : estimate_call (many_stops "stops=0" 0) ≡ refuses 6 0
  -- refusal 7 beside them; the C entry and the program answer as with space for the most cells
  pub axis_14 : answer_to (beside "axis=1,2") 14 128 ≡ (7, 0)
  pub axis_15 : answer_to (beside "axis=1,2") 15 128 ≡ (0, 0)
  pub most_5004 : answer_to many_gaps 5004 128 ≡ (7, 0)
  pub most_5005 : answer_to many_gaps 5005 128 ≡ (0, 0)
  pub most_entry : (entry many_gaps (replicate 128 7)).result ≡ pos 59
  pub most_program : answer_text many_gaps ≡ bytes "state=done\nat=0,0\nhigh=992\nlow=992\nbefore=205208\nrounds=10\n"
