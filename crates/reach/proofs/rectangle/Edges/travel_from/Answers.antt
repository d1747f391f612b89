-- What `reach::rectangle::Edges::travel_from` owes.
use native.Mathlib.Omega.{arith}
use mir.Syntax.{w32}
use Rattle.numbers.proofs.Words.{natural_fits, result_is}
use Rattle.reach.proofs.ExcessLaws.{away_most, away_sum}
use Rattle.reach.proofs.rectangle.Edges.travel_from.Goals as goal

pub overflow_add-result : goal.overflow_add-result
overflow_add-result c =
    let edges = c.args.self.in_range in
    natural_fits w32 _ _ (away_sum _ _ _ _ _ _ c.requires edges _ _ c.outside.ensures c.outside-2.ensures)
    (omega (arith, away_most _ _ _ _ _ _ c.requires edges))

pub returns : goal.returns
returns c =
    let edges = c.args.self in
    let most = away_most c.args.x c.args.y edges.xlo edges.ylo edges.xhi edges.yhi c.requires edges.in_range in
    let is = result_is w32 _ _ (away_sum _ _ _ _ _ _ c.requires edges.in_range _ _ c.outside.ensures c.outside-2.ensures)
    (record { sfits = omega (arith, most) }) in
    (is, rw is most)
