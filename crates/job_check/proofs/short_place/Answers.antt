-- What `job_check::short_place` owes.
use mathlib.Core.Path.{◌∙◌}
use borrow.Author.Rules.{rules}
use Rattle.job_check.proofs.ShortLaws.{both_on, both_off, short_word, short_two}
use Rattle.job_check.proofs.short_place.Goals as goal

pub returns-then-short : goal.returns-then-short
returns-then-short c =
    both_on (short_word (search rules) c.short.ensures) (short_word (search rules) c.short-then-short.ensures) c.if-short.true
    ∙ short_two c.args.p.x c.args.p.y

pub returns-else-short : goal.returns-else-short
returns-else-short c = both_off _ (short_word (search rules) c.short.ensures) c.if-short.false ∙ short_two c.args.p.x c.args.p.y
