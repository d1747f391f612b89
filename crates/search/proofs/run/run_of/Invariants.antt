-- The loops of `search::run::run_of`.
use Prim.Native.Nat.{◌-◌, ◌≤◌}
use Rattle.query.specs.Range.{rounds_limit}
use Rattle.priced_place.specs.Prepared.{problem_of}
use Rattle.search.specs.Running.{search_of, Holds}
use Rattle.search.proofs.RunLaws.{rounds_from}
use Rattle.search.proofs.run.run_of.Given as goal

abbrev pub invariant-loop-round : goal.invariant-loop-round
invariant-loop-round l = (l._round ≤ l.rounds)
    × Holds (rounds_from (problem_of l.problem).rules l._round (search_of l.initial.live.cells l.initial.state)) (rounds_limit - l._round) l.live l.state
