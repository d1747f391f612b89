-- What `job_check::stop_lines` owes.
use mathlib.Core.Path.{ap, ◌∙◌}
use Rattle.job_check.specs.LineFaults.{checked_as}
use Rattle.job_check.proofs.ShortLaws.{passed_on}
use Rattle.job_check.proofs.LineLoops.{none_left, one_fewer, refused_here}
use Rattle.job_check.proofs.stop_lines.Goals as goal

pub loop-stop-preserved : goal.loop-stop-preserved
loop-stop-preserved c = one_fewer _ _ c.in-Some.stop c.next.new.self c.loop-stop.invariant (rw c.in-Some.is at c.next.ensures.steps) c.stop_line.ensures
    (ap checked_as c.in_ok-stop_line.was)

pub returns-in_err-stop_line : goal.returns-in_err-stop_line
returns-in_err-stop_line c =
    passed_on _ c.from_residual.ensures.1
    ∙ refused_here _ _ c.in-Some.stop c.next.new.self c.loop-stop.invariant (rw c.in-Some.is at c.next.ensures.steps) c.stop_line.ensures
    (ap checked_as c.in_err-stop_line.was)

pub returns : goal.returns
returns c = none_left _ _ c.next.new.self c.loop-stop.invariant (rw c.in-None.is at c.next.ensures.steps)
