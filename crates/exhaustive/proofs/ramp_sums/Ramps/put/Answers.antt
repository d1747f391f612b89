-- What `exhaustive::ramp_sums::Ramps::put` owes.
use mathlib.Core.Path.{◌≡◌, ◌∙◌}
use native.Mathlib.Omega.{arith}
use mir.Syntax.{w64}
use mir.ValLaws.{to_z-of_z}
use Rattle.exhaustive.specs.Ramps.{height_of}
use Rattle.exhaustive.proofs.RampLaws.{ramp_weight}
use Rattle.exhaustive.proofs.ramp_sums.Ramps.put.Goals as goal

pub overflow_mul-self : goal.overflow_mul-self
overflow_mul-self c =
    let risen : c.height.result ≡ height_of c.args.start = c.height.ensures ∙ rw (to_z-of_z w64 c.args.start c.ranges.start) in
    rw risen (omega (arith, ramp_weight c.requires.1))

pub overflow_add-self-2 : goal.overflow_add-self-2
overflow_add-self-2 c =
    let risen : c.height.result ≡ height_of c.args.start = c.height.ensures ∙ rw (to_z-of_z w64 c.args.start c.ranges.start) in
    rw risen (omega (arith, c.requires.0.starts_most c.args.k, ramp_weight c.requires.1))
