-- What `kernels::Bound::at` owes.
use Rattle.kernels.proofs.SumLaws.{bound_found}
use Rattle.kernels.proofs.BoundKernel.at.Goals as goal

pub returns : goal.returns
returns c = bound_found c.args.o.now c.args.t c.turn_rect.ensures.is c.bound.ensures
