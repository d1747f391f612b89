-- What `kernels::CornerBound::at` owes.
use Rattle.kernels.proofs.SumLaws.{corner_bound_found}
use Rattle.kernels.proofs.CornerBoundKernel.at.Goals as goal

pub returns : goal.returns
returns c = corner_bound_found c.args.o.now c.args.t c.turn_rect.ensures.is c.corner_bound.ensures c.positive.ensures
