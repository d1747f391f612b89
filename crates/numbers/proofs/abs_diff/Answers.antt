-- What `numbers::abs_diff` owes.
use mathlib.Core.Path.{◌∙◌}
use Prim.Native.Nat.{◌^◌, ◌<◌}
use native.Mathlib.Omega.{arith}
use lib.IntN.{◌-ℤ◌}
use mir.Syntax.{w64}
use mir.ValLaws.{to_z-of_z}
use Rattle.numbers.specs.Integer.{dist}
use Rattle.numbers.proofs.Distance.{dist_most}
use Rattle.numbers.proofs.Words.{word_fits}
use Rattle.numbers.proofs.abs_diff.Goals as goal

pub returns : goal.returns
unfolding dist
returns c =
    let within : dist c.args.u c.args.v < 2 ^ 63 = omega (arith, dist_most (2 ^ 61) c.args.u c.args.v c.requires.0 c.requires.1) in
    c.unsigned_abs.ensures.value
    ∙ rw (
      to_z-of_z w64 c.args.u c.ranges.u,
      to_z-of_z w64 c.args.v c.ranges.v,
      to_z-of_z w64 (c.args.u -ℤ c.args.v) (word_fits w64 (c.args.u -ℤ c.args.v) within),
    )
