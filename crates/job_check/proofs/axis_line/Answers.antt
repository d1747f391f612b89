-- What `job_check::axis_line` owes.
use Rattle.job_check.proofs.ShortLaws.{line_tested}
use Rattle.job_check.proofs.axis_line.Goals as goal

pub returns : goal.returns
returns c = line_tested _ _ _ c.check_numbers.ensures c.short_costs.ensures c.axis_in_range.ensures
