-- What `job_line::coordinate_in_range` owes.
use Rattle.job_line.specs.Kinds.{coordinates}
use Rattle.job_line.proofs.RangeTests.{range_held}
use Rattle.job_line.proofs.coordinate_in_range.Goals as goal

pub returns : goal.returns
returns c = range_held coordinates c.ranges.v c.between.ensures
