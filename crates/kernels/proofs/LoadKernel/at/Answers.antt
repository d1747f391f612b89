-- What `kernels::Load::at` owes.
use Rattle.kernels.proofs.SumLaws.{load_found}
use Rattle.kernels.proofs.LoadKernel.at.Goals as goal

pub returns : goal.returns
returns c = load_found c.args.o.now c.args.t c.turn_rect.ensures.is c.load.ensures
