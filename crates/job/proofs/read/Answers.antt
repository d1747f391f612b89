-- What `job::read` owes.
use Rattle.job.proofs.ReadLaws.{read_missing}
use Rattle.job.proofs.read.Goals as goal

pub returns : goal.returns
returns c = read_missing c.args.bytes.now c.read_with.ensures
