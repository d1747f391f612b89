-- What `job_check::count_line` owes.
use mathlib.Core.Path.{◌∙◌}
use lib.IntN.{pos}
use Rattle.job_check.proofs.ShortLaws.{line_tested, natural_is, short_one, count_tested}
use Rattle.job_check.proofs.count_line.Goals as goal

pub returns : goal.returns
returns c =
    line_tested _ _ _ c.check_numbers.ensures (natural_is c.args.n ∙ short_one (pos c.args.n)) (count_tested c.args.most c.args.n)
