-- What `reach::rectangle::outside` owes.
use Prim.Native.Nat.{◌^◌, ◌<◌}
use native.Mathlib.Omega.{arith}
use mir.Syntax.{w32}
use Rattle.numbers.specs.Integer.{dist, clamp}
use Rattle.numbers.proofs.Words.{natural_fits, result_is}
use Rattle.reach.proofs.ExcessLaws.{outside_most, outside_sum}
use Rattle.reach.proofs.rectangle.outside.Goals.{Start}
use Rattle.reach.proofs.rectangle.outside.Goals as goal

small : (c : Start) → dist c.args.v (clamp c.args.lo c.args.hi c.args.v) < 2 ^ 31
small c = omega (arith, outside_most c.args.v c.args.lo c.args.hi c.requires.0 c.requires.1 c.requires.2)

pub overflow_add-result : goal.overflow_add-result
overflow_add-result c =
    let p = c.requires in
    natural_fits w32 _ _ (outside_sum _ _ _ p.0 p.1 p.2 _ _ c.excess.ensures c.excess-2.ensures) (small c.before.before)

pub returns : goal.returns
returns c =
    let p = c.requires in
    result_is w32 _ _ (outside_sum _ _ _ p.0 p.1 p.2 _ _ c.excess.ensures c.excess-2.ensures)
    (record { sfits = small c.before.before })
