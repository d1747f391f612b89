-- What `job_line::cost_in_range` owes.
use native.Mathlib.Omega.{arith}
use Rattle.std.proofs.lemmas.Grind.{common_steps}
use Rattle.job_line.specs.Kinds.{in_range}
use Rattle.job_line.proofs.cost_in_range.Goals as goal

pub returns : goal.returns
unfolding in_range
returns c = grind (arith, common_steps)
