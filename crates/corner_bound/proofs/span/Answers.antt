-- What `corner_bound::span` owes.
use Rattle.corner_bound.proofs.SpanLaws.{span_is}
use Rattle.corner_bound.proofs.span.Goals as goal

pub returns : goal.returns
returns c = span_is c.of-edges.ensures
