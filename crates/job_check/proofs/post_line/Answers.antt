-- What `job_check::post_line` owes.
use Rattle.job_check.proofs.ShortLaws.{line_tested}
use Rattle.job_check.proofs.post_line.Goals as goal

pub returns : goal.returns
returns c = line_tested _ _ _ c.check_numbers.ensures c.short_place.ensures c.place_in_range.ensures
