-- What `kernels::Cost::at` owes.
use Rattle.kernels.proofs.SumLaws.{cost_found}
use Rattle.kernels.proofs.CostKernel.at.Goals as goal

pub returns : goal.returns
returns c = cost_found c.args.o.now c.args.t c.turn_place.ensures.is c.cost.ensures
