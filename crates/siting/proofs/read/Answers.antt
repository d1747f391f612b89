-- What `siting::read` owes.
use Rattle.siting.proofs.SavingLaws.{read_answers}
use Rattle.siting.proofs.read.Goals as goal

pub returns : goal.returns
returns c = read_answers _ _ c.read.ensures
