-- What `write::at_least` owes.
use mathlib.Core.Path.{◌∙◌}
use Rattle.write.proofs.DigitLaws.{test_is}
use Rattle.write.proofs.at_least.Goals as goal

pub returns-clause-value : goal.returns-clause-value
returns-clause-value c = c.from.ensures ∙ test_is c.args.n c.args.least
