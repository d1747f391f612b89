-- What `job_check::short_costs` owes.
use mathlib.Core.Path.{◌∙◌}
use lib.IntN.{pos}
use borrow.Author.Tests.{lt-ltb, le-ltb}
use Rattle.job_check.proofs.ShortLaws.{both_on, both_off, natural_is, short_two}
use Rattle.job_check.proofs.short_costs.Goals as goal

pub returns-then-c-lt-FIRST_LONG : goal.returns-then-c-lt-FIRST_LONG
returns-then-c-lt-FIRST_LONG c =
    both_on (natural_is c.args.c.a) (natural_is c.args.c.b) (lt-ltb _ _ c.if-c-lt-FIRST_LONG.true) ∙ short_two (pos c.args.c.a) (pos c.args.c.b)

pub returns-else-c-lt-FIRST_LONG : goal.returns-else-c-lt-FIRST_LONG
returns-else-c-lt-FIRST_LONG c =
    both_off _ (natural_is c.args.c.a) (le-ltb _ _ c.if-c-lt-FIRST_LONG.false) ∙ short_two (pos c.args.c.a) (pos c.args.c.b)
