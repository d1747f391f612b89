-- The estimate (RULES "Change 3") by how many lines there are.
use Rattle.std.specs.Prelude.{ℕ, ◌+◌, ◌-◌, ◌*◌, min, max, ◌≤◌, length}
use Rattle.query.specs.Estimate.{Estimate}
use Rattle.query.specs.Range.{stops_limit, rounds_limit}
use Rattle.prepare.specs.declared.PreparedJob.{PreparedJob}

-- lines of a deck in range, of each axis two more than stops at most, and rounds of a job
pub record LineCounts (vertical_lines horizontal_lines rounds : ℕ) : Type 0 where
  pub vertical : vertical_lines ≤ stops_limit + 2
  pub horizontal : horizontal_lines ≤ stops_limit + 2
  pub rounds_limit_lem : rounds ≤ rounds_limit

abbrev pub gaps_by : ℕ → ℕ
gaps_by count = max 1 (count - 1)

unfoldable pub estimate_by : ℕ → ℕ → ℕ → Estimate
estimate_by vertical_lines horizontal_lines rounds = record {
  across = gaps_by vertical_lines;
  deep = gaps_by horizontal_lines;
  limit = gaps_by vertical_lines * gaps_by horizontal_lines - 1;
  cells = min (rounds + 1) (gaps_by vertical_lines * gaps_by horizontal_lines);
}

-- ---- of what a job gives
abbrev pub GivenCounts : PreparedJob → Type 0
GivenCounts g = LineCounts (length g.problem.vertical) (length g.problem.horizontal) g.rounds

abbrev pub given_estimate : PreparedJob → Estimate
given_estimate g = estimate_by (length g.problem.vertical) (length g.problem.horizontal) g.rounds
