-- What `columns::copy_near` owes.
use mathlib.Core.Path.{sym, ◌∙◌}
use Prim.Native.Nat.{◌^◌, ◌<◌}
use native.Mathlib.Omega.{arith}
use lib.IntN.{ℤ, pos}
use lib.ListN.{get_or, length-map, get_or-map}
use mir.Syntax.{w32}
use mir.ValLaws.{to_z_pos}
use Rattle.columns.proofs.CopyLaws.{copied_none, copied_start, copied_whole}
use Rattle.columns.proofs.copy_near.Goals as goal

pub loop-i-init : goal.loop-i-init
loop-i-init c = copied_none _ _ _ _

pub loop-i-preserved : goal.loop-i-preserved
loop-i-preserved c =
    let count = length-map {B = ℤ} c.args.from.now pos in
    let small : get_or c.args.from.now c.loop-i.i 0 < 2 ^ 31 = omega (arith, c.requires.0.range c.loop-i.i c.loop-i-test.true) in
    copied_start _ _ _ _ (omega (arith, count, c.requires.1)) c.loop-i.invariant (omega (arith, count, c.loop-i-test.true))
    (to_z_pos w32 _ small ∙ sym (get_or-map pos c.args.from.now c.loop-i.i 0))

pub returns : goal.returns
returns c =
    let count = length-map {B = ℤ} c.args.from.now pos in
    copied_whole _ _ (omega (arith, count, c.requires.1)) c.loop-i.invariant (omega (arith, count, c.loop-i-test.false))
