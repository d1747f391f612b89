-- What `job_check::short` owes.
use Rattle.job_check.proofs.ShortLaws.{number_short}
use Rattle.job_check.proofs.short.Goals as goal

pub returns : goal.returns
returns c = number_short c.ranges.z c.unsigned_abs.ensures.value
