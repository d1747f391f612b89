-- What `job_line::between` owes.
use native.Mathlib.Omega.{arith}
use Rattle.std.proofs.lemmas.Grind.{common_steps}
use Rattle.numbers.specs.Integer.{between}
use Rattle.job_line.proofs.between.Goals as goal

pub returns : goal.returns
unfolding between
returns c = grind (arith, common_steps)
