-- What `job_check::stop_line` owes.
use mathlib.Core.Path.{sym, ◌∙◌}
use native.Mathlib.Omega.{arith}
use Rattle.job_check.proofs.ShortLaws.{malformed, line_tested, few_visits, visits_tested}
use Rattle.job_check.proofs.stop_line.Goals as goal

pub returns-then-not-short_stop : goal.returns-then-not-short_stop
returns-then-not-short_stop c = malformed _ _ _ (sym c.short_stop.ensures ∙ c.if-not-short_stop.true)

pub overflow_cast-s : goal.overflow_cast-s
overflow_cast-s c = omega (arith, few_visits _ _ _ c.short_stop.ensures c.if-not-short_stop.false)

pub returns : goal.returns
returns c =
    let few = few_visits _ _ _ c.short_stop.ensures c.if-not-short_stop.false in
    line_tested _ _ _ c.check_numbers.ensures (sym c.if-not-short_stop.false ∙ c.short_stop.ensures)
    (visits_tested _ _ _ few c.stop_in_range.ensures)
