-- What `reach::rectangle::Edges::of` owes.
use Rattle.reach.proofs.NarrowLaws.{made_edges, made_range}
use Rattle.reach.proofs.rectangle.Edges.of.Goals as goal

pub invariant_of-result : goal.invariant_of-result
invariant_of-result c =
    record { in_range = made_range c.requires.0 c.requires.1 c.scaled.ensures c.scaled-2.ensures c.scaled-3.ensures c.scaled-4.ensures }

pub returns : goal.returns
returns c =
    let pre = c.requires in
    record {
      are = made_edges pre.0 pre.1 c.scaled.ensures c.scaled-2.ensures c.scaled-3.ensures c.scaled-4.ensures;
      range = made_range pre.0 pre.1 c.scaled.ensures c.scaled-2.ensures c.scaled-3.ensures c.scaled-4.ensures;
    }
