-- What `exhaustive::ramp_sums::RunningSums::add_line` owes.
use native.Mathlib.Omega.{arith}
use Rattle.exhaustive.proofs.SweepLaws.{up_next, up_at_next, down_next, down_at_next, up_small, up_at_small, down_small, down_at_small}
use Rattle.exhaustive.proofs.ramp_sums.RunningSums.add_line.Goals as goal

pub overflow_add-self : goal.overflow_add-self
overflow_add-self c = omega (arith, up_small c.requires.0 c.requires.1 c.requires.2)

pub overflow_add-self-2 : goal.overflow_add-self-2
overflow_add-self-2 c = omega (arith, up_at_small c.requires.0 c.requires.1 c.requires.2)

pub overflow_add-self-3 : goal.overflow_add-self-3
overflow_add-self-3 c = omega (arith, down_small c.requires.0 c.requires.1 c.requires.2)

pub overflow_add-self-4 : goal.overflow_add-self-4
overflow_add-self-4 c = omega (arith, down_at_small c.requires.0 c.requires.1 c.requires.2)

pub returns : goal.returns
returns c = record {
  up_is = up_next c.requires.0 c.requires.1 c.requires.2;
  up_at_is = up_at_next c.requires.0 c.requires.1 c.requires.2;
  down_is = down_next c.requires.0 c.requires.1 c.requires.2;
  down_at_is = down_at_next c.requires.0 c.requires.1 c.requires.2;
}
