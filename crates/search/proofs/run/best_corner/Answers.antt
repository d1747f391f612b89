-- What `search::run::best_corner` owes.
use native.Mathlib.Omega.{arith}
use Rattle.deck.specs.Values.{rect_of}
use Rattle.search.proofs.BestLaws.{priced_limit, priced_words, start_best_is}
use Rattle.search.proofs.run.best_corner.Goals as goal

pub improve-best-requires : goal.improve-best-requires
improve-best-requires c =
    let o = c.args.problem.now.objects in
    (priced_limit o _ _ c.priced-best.ensures, priced_limit o _ _ c.priced.ensures)

pub improve-best-requires-2 : goal.improve-best-requires-2
improve-best-requires-2 c = (c.improve-best.ensures.limit, priced_limit c.args.problem.now.objects _ _ c.priced-2.ensures)

pub improve-requires : goal.improve-requires
improve-requires c = (c.improve-best-2.ensures.limit, priced_limit c.args.problem.now.objects _ _ c.priced-3.ensures)

pub returns : goal.returns
returns c =
    let r = c.args.problem.now.area in
    let first = rw c.low.ensures at c.priced-best.ensures in
    let second = priced_words _ r.xlo r.yhi (omega arith) (omega arith) _ c.priced.ensures in
    let third = priced_words _ r.xhi r.ylo (omega arith) (omega arith) _ c.priced-2.ensures in
    let last = rw c.high.ensures at c.priced-3.ensures in
    record {
      start =
          start_best_is _ _ (rect_of r) _ _ _ _ first second third last _ _ _ c.improve-best.ensures.better c.improve-best-2.ensures.better
          c.improve.ensures.better;
      limit = c.improve.ensures.limit;
    }
