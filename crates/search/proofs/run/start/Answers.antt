-- What `search::run::start` owes.
use native.Mathlib.Omega.{arith}
use Rattle.deck.specs.Values.{rect_of}
use Rattle.priced_place.proofs.DeckProblem.{prepared_ranged}
use Rattle.search.proofs.RoundLaws.{started}
use Rattle.search.proofs.run.start.Goals as goal

pub best_corner-best-requires : goal.best_corner-best-requires
best_corner-best-requires c = (prepared_ranged c.requires).range

pub bounded-cell-requires : goal.bounded-cell-requires
bounded-cell-requires c = prepared_ranged c.requires

pub add-requires : goal.add-requires
add-requires c = record {
  room = rw c.clear.ensures (omega arith);
  ranged = rw c.bounded-cell.ensures (prepared_ranged c.requires).range;
  cost_limit_lem = c.best_corner-best.ensures.limit;
}

pub returns : goal.returns
returns c =
    let added = rw c.clear.ensures at c.add.ensures in
    started _ _ (rect_of c.args.problem.now.area) _ c.best_corner-best.ensures.start _ c.bounded-cell.ensures _ added
