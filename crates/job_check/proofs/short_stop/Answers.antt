-- What `job_check::short_stop` owes.
use mathlib.Core.Path.{◌∙◌}
use lib.IntN.{pos}
use Rattle.job_check.proofs.ShortLaws.{both_on, both_off, natural_is, short_stop}
use Rattle.job_check.proofs.short_stop.Goals as goal

pub returns-then-short_place : goal.returns-then-short_place
returns-then-short_place c =
    both_on c.short_place.ensures (natural_is c.args.s.visits) c.if-short_place.true
    ∙ short_stop c.args.s.at.x c.args.s.at.y (pos c.args.s.visits)

pub returns-else-short_place : goal.returns-else-short_place
returns-else-short_place c =
    both_off _ c.short_place.ensures c.if-short_place.false ∙ short_stop c.args.s.at.x c.args.s.at.y (pos c.args.s.visits)
