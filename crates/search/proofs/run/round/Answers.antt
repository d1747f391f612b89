-- What `search::run::round` owes.
use mathlib.Core.Path.{ap, ◌∙◌}
use native.Mathlib.Omega.{arith}
use Rattle.query.specs.Order as Query
use Rattle.cells.specs.Live.{leading}
use Rattle.search.proofs.LiveLaws.{added_free}
use Rattle.search.proofs.RoundLaws.{cutting, rounded, halves_limit, halves_ranged, leading_free}
use Rattle.search.proofs.run.round.Goals as goal

pub halve-halves-requires : goal.halve-halves-requires
halve-halves-requires c = (c.requires.0, cutting c.requires.1)

-- the limits by omega, whichever corner is taken: that it is the right one is shown in `returns`
pub improve-requires : goal.improve-requires
improve-requires c =
    let limits = halves_limit c.args.problem.now.objects _ _ (cutting c.requires.1) _ c.halve-halves.ensures in
    (c.requires.1.cost_limit_lem, omega (arith, c.requires.1.cost_limit_lem, limits))

pub improve-best-requires : goal.improve-best-requires
improve-best-requires c =
    let limits = halves_limit c.args.problem.now.objects _ _ (cutting c.requires.1) _ c.halve-halves.ensures in
    (c.improve.ensures.limit, omega (arith, c.requires.1.cost_limit_lem, limits))

pub add-requires : goal.add-requires
add-requires c = record {
  room = omega (arith, c.requires.1.room, leading_free _ c.args.live.now _ c.trim.ensures);
  ranged = (halves_ranged c.args.problem.now.objects _ _ (cutting c.requires.1) _ c.halve-halves.ensures).1;
  cost_limit_lem = c.improve-best.ensures.limit;
}

pub add-requires-2 : goal.add-requires-2
add-requires-2 c = record {
  room = omega (arith, c.requires.1.room, leading_free _ c.args.live.now _ c.trim.ensures, added_free _ _ _ _ _ c.add.ensures);
  ranged = (halves_ranged c.args.problem.now.objects _ _ (cutting c.requires.1) _ c.halve-halves.ensures).0;
  cost_limit_lem = c.improve-best.ensures.limit;
}

pub returns : goal.returns
returns c =
    let trimmed = c.trim.ensures ∙ ap (λ (k : Query.Key). leading k c.args.live.now) c.priced_key.ensures in
    rounded _ _ c.args.cell c.args.live.now c.args.state c.requires.1 _ c.halve-halves.ensures _ _ c.improve.ensures.better c.improve-best.ensures.better
    _ trimmed _ c.add.ensures _ c.add-2.ensures
