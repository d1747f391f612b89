-- What `exhaustive::ramp_sums::Ramps::add` owes.
use mir.Syntax.{w64}
use mir.ValLaws.{to_z-of_z}
use Rattle.exhaustive.proofs.ScaledLines.{scaled_in_range}
use Rattle.exhaustive.proofs.RampLaws.{put_added}
use Rattle.exhaustive.proofs.ramp_sums.Ramps.add.Goals as goal

pub returns : goal.returns
returns c =
    let l = c.args.lines.now in
    let first = rw (to_z-of_z w64 c.args.start c.ranges.start) at c.first_from-k.ensures in
    put_added _ _ _ _ _ (scaled_in_range _ l.divisor.dividing.most _ l.plain.in_range) c.requires.1 first c.requires.0
    (rw (to_z-of_z w64 c.args.start c.ranges.start) at c.put.ensures)
