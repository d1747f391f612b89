-- What `search::run::run_of` owes.
use mathlib.Core.Path.{sym, ◌∙◌}
use native.Mathlib.Omega.{arith}
use Rattle.priced_place.specs.Prepared.{problem_of}
use Rattle.search.proofs.DeckRun.{steady}
use Rattle.search.proofs.RunLaws.{holds_first, holds_more, holds_run, ended, finished, takeable}
use Rattle.search.proofs.run.run_of.Goals as goal

pub loop-round-init : goal.loop-round-init
loop-round-init c = (omega arith, holds_first _ _ _ _ c.start-state.ensures)

-- no cell is live
pub returns-in_default : goal.returns-in_default
returns-in_default c =
    let held = holds_run (problem_of c.args.problem.now) _ _ _ _ _ c.start-state.ensures.is c.loop-round.invariant.1 in
    ended _ _ _ _ _ held _ (omega arith) _ (sym c.in_default.is ∙ c.pop_first.ensures.first) c.pop_first.ensures.left

pub round-state-requires : goal.round-state-requires
round-state-requires c =
    let p = c.requires in
    let held = holds_run (problem_of c.args.problem.now) _ _ _ _ _ c.start-state.ensures.is c.loop-round.invariant.1 in
    let taken = sym c.in-Some.is ∙ c.pop_first.ensures.first in
    (p.1, takeable _ _ _ _ _ held (steady p.0) (omega (arith, p.2)) (omega (arith, p.2)) _ _ taken c.pop_first.ensures.left)

pub loop-round-preserved : goal.loop-round-preserved
loop-round-preserved c = (
  omega arith,
  holds_more _ _ _ _ _ _ _ _ _ c.loop-round.invariant.1 (sym c.in-Some.is ∙ c.pop_first.ensures.first) c.pop_first.ensures.left
      c.round-state.ensures,
)

pub returns : goal.returns
returns c =
    let held = holds_run (problem_of c.args.problem.now) _ _ _ _ _ c.start-state.ensures.is c.loop-round.invariant.1 in
    finished _ _ _ _ _ held _ (omega arith)
