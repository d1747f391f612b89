-- What `job_check::post_lines` owes.
use mathlib.Core.Path.{ap, ◌∙◌}
use Rattle.job_check.specs.LineFaults.{checked_as}
use Rattle.job_check.proofs.ShortLaws.{passed_on}
use Rattle.job_check.proofs.LineLoops.{none_left, one_fewer, refused_here}
use Rattle.job_check.proofs.post_lines.Goals as goal

pub loop-post-preserved : goal.loop-post-preserved
loop-post-preserved c = one_fewer _ _ c.in-Some.post c.next.new.self c.loop-post.invariant (rw c.in-Some.is at c.next.ensures.steps) c.post_line.ensures
    (ap checked_as c.in_ok-post_line.was)

pub returns-in_err-post_line : goal.returns-in_err-post_line
returns-in_err-post_line c =
    passed_on _ c.from_residual.ensures.1
    ∙ refused_here _ _ c.in-Some.post c.next.new.self c.loop-post.invariant (rw c.in-Some.is at c.next.ensures.steps) c.post_line.ensures
    (ap checked_as c.in_err-post_line.was)

pub returns : goal.returns
returns c = none_left _ _ c.next.new.self c.loop-post.invariant (rw c.in-None.is at c.next.ensures.steps)
