-- What `job_check::short_area` owes.
use mathlib.Core.Path.{◌∙◌}
use Rattle.job_check.proofs.ShortLaws.{both_on, both_off, short_corners}
use Rattle.job_check.proofs.short_area.Goals as goal

pub returns-then-short_place : goal.returns-then-short_place
returns-then-short_place c =
    both_on (rw c.low.ensures at c.short_place.ensures) (rw c.high.ensures at c.short_place-then-short_place.ensures) c.if-short_place.true
    ∙ short_corners c.args.a.xlo c.args.a.ylo c.args.a.xhi c.args.a.yhi

pub returns-else-short_place : goal.returns-else-short_place
returns-else-short_place c =
    both_off _ (rw c.low.ensures at c.short_place.ensures) c.if-short_place.false
    ∙ short_corners c.args.a.xlo c.args.a.ylo c.args.a.xhi c.args.a.yhi
