-- The loop of `job::read_stops`.
use Prim.Native.Nat.{◌≤◌}
use Rattle.query.specs.Range.{stops_limit}
use Rattle.job_line.specs.Kinds.{stop}
use Rattle.job.specs.ManyLines.{with_stop_lines}
use Rattle.job.proofs.PartLaws.{Filled}
use Rattle.job.proofs.read_stops.Given as goal

abbrev pub invariant-loop-i : goal.invariant-loop-i
invariant-loop-i l = (l.count ≤ stops_limit) × Filled stop with_stop_lines l.initial.deck l.deck l.initial.left l.count l.left l.i
