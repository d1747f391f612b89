-- The loop of `columns::ScaledPosts::of`.
use Rattle.deck.specs.Values.{held_axis}
use Rattle.columns.proofs.PostLaws.{Scaling}
use Rattle.columns.proofs.ScaledPosts.of.Given as goal

abbrev pub invariant-loop-j : goal.invariant-loop-j
invariant-loop-j l = Scaling (held_axis l.axis) l.posts l.x l.y l.j
