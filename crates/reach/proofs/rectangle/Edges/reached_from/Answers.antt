-- What `reach::rectangle::Edges::reached_from` owes.
use mathlib.Core.Path.{ap, ◌∙◌}
use native.Mathlib.Omega.{arith}
use lib.IntN.{pos}
use mir.Syntax.{w32}
use mir.Val.{of_z}
use Rattle.columns.proofs.WordLaws.{test_is}
use Rattle.reach.proofs.NarrowLaws.{natural_word, natural_small}
use Rattle.reach.proofs.ExcessLaws.{away_most, away_word}
use Rattle.reach.proofs.rectangle.Edges.reached_from.Goals as goal

pub returns : goal.returns
returns c =
    let edges = c.args.self in
    let near = natural_word c.args.near c.requires.1 in
    let most = away_most c.args.x c.args.y edges.xlo edges.ylo edges.xhi edges.yhi c.requires.0 edges.in_range in
    let travel = c.travel_from.ensures.0 ∙ ap pos (away_word c.args.x c.args.y edges.xlo edges.ylo edges.xhi edges.yhi c.requires.0 edges.in_range) in
    test_is _ _ (of_z w32 c.args.near) travel (omega (arith, most)) (omega (arith, near, natural_small c.args.near c.ranges.near c.requires.1)) ∙ rw near
