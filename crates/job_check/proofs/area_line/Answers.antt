-- What `job_check::area_line` owes.
use Rattle.job_check.proofs.ShortLaws.{line_tested}
use Rattle.job_check.proofs.area_line.Goals as goal

pub returns : goal.returns
returns c = line_tested _ _ _ c.check_numbers.ensures c.short_area.ensures c.area_in_range-in_range.ensures
