-- The cell space that the C entry and the program answer as if lent is enough for every job, so that the call then gives no 7.
use Prim.Native.Nat.{ℕ, ◌+◌, ◌*◌, ◌≤◌}
use mathlib.Core.Path.{◌≡◌}
use mathlib.Core.List.{List}
use native.Mathlib.Omega.{arith}
use lib.IntN.{pos}
use lib.ListN.{length, length-replicate}
use Rattle.query.specs.Range.{rounds_limit}
use Rattle.query.specs.Space.{space_needed}
use Rattle.query.proofs.EstimateLaws.{needs_most}
use Rattle.job.specs.Format.{Job, accepted, read_job}
use Rattle.job.proofs.JobLaws.{most_rounds}
use Rattle.report.specs.Limits.{output_size}
use Rattle.calls.specs.Call.{own_space}
use Rattle.calls.specs.Promises.{Accepted}
use Rattle.calls.proofs.Promises.{read_exactly}

module _ (job out : List ℕ) (j : Job) (e : read_job job ≡ accepted j) where
  pub own_enough : space_needed j.deck j.rounds ≤ length own_space
  own_enough =
      let a = ((read_exactly job j).0 e).1 in
      omega (arith, needs_most j.deck j.rounds, most_rounds a.writable, length-replicate (5 * (rounds_limit + 1)) (pos 0))

  pub own_accepted : output_size ≤ length out → Accepted job own_space out j
  own_accepted h = record { read = e; space = own_enough; output = h }
