-- The loop of `job::read_posts`.
use Prim.Native.Nat.{◌≤◌}
use Rattle.query.specs.Range.{posts_limit}
use Rattle.job_line.specs.Kinds.{post}
use Rattle.job.specs.ManyLines.{with_post_lines}
use Rattle.job.proofs.PartLaws.{Filled}
use Rattle.job.proofs.read_posts.Given as goal

abbrev pub invariant-loop-i : goal.invariant-loop-i
invariant-loop-i l = (l.count ≤ posts_limit) × Filled post with_post_lines l.initial.deck l.deck l.initial.left l.count l.left l.i
