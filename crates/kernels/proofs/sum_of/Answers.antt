-- What `kernels::sum_of` owes.
use mathlib.Core.Path.{◌≡◌}
use native.Mathlib.Omega.{arith}
use Rattle.kernels.proofs.sum_of.Goals as goal

pub returns-in-2 : goal.returns-in-2
returns-in-2 c = rw c.in-2.is c.sum_turns-in-2.ensures

pub returns-in_default : goal.returns-in_default
returns-in_default c = let five : c.args.which ≡ 5 = omega (arith, c.requires.0, c.in_default) in rw five c.sum_turns-in_default.ensures
