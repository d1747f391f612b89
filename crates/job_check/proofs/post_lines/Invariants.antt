-- The loop of `job_check::post_lines`.
use mathlib.Core.List.{map}
use Rattle.deck.specs.Values.{place_of}
use Rattle.job.specs.Spelling.{post_line}
use Rattle.job_check.specs.LineFaults.{first_fault}
use Rattle.job_check.proofs.LineLoops.{LinesLeft}
use Rattle.job_check.proofs.post_lines.Given as goal

abbrev pub invariant-loop-post : goal.invariant-loop-post
invariant-loop-post l = LinesLeft post_line place_of (first_fault l.first (map post_line (map place_of l.posts))) l.post-iterator
