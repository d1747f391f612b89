-- The loop of `job_check::stop_lines`.
use mathlib.Core.List.{map}
use Rattle.deck.specs.Values.{stop_of}
use Rattle.job.specs.Spelling.{stop_line}
use Rattle.job_check.specs.LineFaults.{first_fault}
use Rattle.job_check.proofs.LineLoops.{LinesLeft}
use Rattle.job_check.proofs.stop_lines.Given as goal

abbrev pub invariant-loop-stop : goal.invariant-loop-stop
invariant-loop-stop l = LinesLeft stop_line stop_of (first_fault l.first (map stop_line (map stop_of l.stops))) l.stop-iterator
