-- Rows of the figures that a record keeps (RULES "Change 5"), from a job's bytes to the near of each stop and to before.
use Rattle.std.specs.Prelude.{ℕ, ◌≡◌, List, [], ◌∷◌, ◌++◌, map, replicate}
use Prim.Native.String.{String}
use Rattle.numbers.specs.Padded.{padded}
use Rattle.job.specs.declared.Job as Held
use Rattle.calls.specs.Answers.{AnswerOf, gives, refuses}
use Rattle.calls.specs.ReadCall.{read_call}
use Rattle.calls.specs.WriteCall.{write_call}
use Rattle.calls.specs.RefusalTable.{case_a, ended}
use Rattle.calls.specs.WriteTable.{apart, apart_lines, most_natural}
use Rattle.deck.specs.DeckOf.{with_figures}

-- all 512 numbers of near, and before, of a job that was read
abbrev pub near_and_before : AnswerOf Held.Job → AnswerOf (List ℕ × ℕ)
near_and_before (gives job) = gives (job.deck.near, job.deck.before)
near_and_before (refuses number line) = refuses number line

abbrev pub figures_in : List String → AnswerOf (List ℕ × ℕ)
figures_in lines = near_and_before (read_call (ended lines))

-- the numbers of near that begin with these and are 0 behind them, and this before
abbrev pub keeping : List ℕ → ℕ → List ℕ × ℕ
keeping nears paid = (padded 512 0 nears, paid)

-- two posts and three stops, of which the second is at a post, and these lines behind the first
abbrev pub posted : List String → List String
posted lines = "area=0,0,9,9" ∷ (lines
    ++ ("posts=2" ∷ "post=0,0" ∷ "post=3,20" ∷ "stops=3" ∷ "stop=4,3,2" ∷ "stop=3,20,5" ∷ "stop=-1,-1,7" ∷ "rounds=0" ∷ []))

pub record RecordTable : Type 0 where
  pub case_a_law : figures_in case_a ≡ gives (keeping (7 ∷ 20 ∷ []) 34)
  -- the post that is closest depends on the axis costs: for the first stop 4 + 3 or 1 + 17, and 36 + 3 or 9 + 17
  pub plain_costs : figures_in (posted []) ≡ gives (keeping (7 ∷ 0 ∷ 2 ∷ []) 28)
  pub heavy_costs : figures_in (posted ("axis=9,1" ∷ [])) ≡ gives (keeping (26 ∷ 0 ∷ 10 ∷ []) 122)
  -- the longest travel, with the most visits
  pub longest : figures_in
      ("area=0,0,0,0" ∷ "axis=9,9" ∷ "posts=1" ∷ "post=-20000,-20000" ∷ "stops=1" ∷ "stop=20000,20000,65535" ∷ "rounds=0" ∷ [])
      ≡ gives (keeping (720000 ∷ []) 47185200000)
  -- written with any figures, a record is the same job
  pub written : map (λ (f : List ℕ × ℕ). write_call (with_figures apart f.0 f.1) 0 (replicate 95 7))
      (keeping [] 0 ∷ (replicate 512 most_natural, most_natural) ∷ [])
      ≡ replicate 2 (record { answer = gives 95; out = ended apart_lines })
