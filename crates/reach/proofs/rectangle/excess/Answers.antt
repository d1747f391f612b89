-- What `reach::rectangle::excess` owes.
use Prim.Native.Nat.{◌^◌, ◌<◌}
use native.Mathlib.Omega.{arith}
use mir.Syntax.{w32}
use Rattle.numbers.proofs.Words.{result_is}
use Rattle.reach.specs.Columns.{excess_of}
use Rattle.reach.proofs.ExcessLaws.{excess_most, excess_above, excess_none}
use Rattle.reach.proofs.rectangle.excess.Goals.{Start}
use Rattle.reach.proofs.rectangle.excess.Goals as goal

small : (c : Start) → excess_of c.args.a c.args.b < 2 ^ 31
small c = omega (arith, excess_most c.args.a c.args.b c.requires.x_range c.requires.y_range)

pub returns-then-b-a : goal.returns-then-b-a
returns-then-b-a c = result_is w32 _ _ (excess_above _ _ c.requires.x_range c.requires.y_range c.if-b-a.true) (record { sfits = small c.before })

pub returns-else-b-a : goal.returns-else-b-a
returns-else-b-a c = excess_none _ _ c.requires.x_range c.requires.y_range c.if-b-a.false
