-- What `job_line::place_in_range` owes.
use mathlib.Core.Path.{sym, ◌∙◌}
use borrow.Author.Rules.{rules}
use Rattle.job_line.specs.Kinds.{coordinates}
use Rattle.job_line.proofs.RangeTests.{held, and_on, and_off, in_two}
use Rattle.job_line.proofs.place_in_range.Goals as goal

pub returns-then-coordinate_in_range : goal.returns-then-coordinate_in_range
returns-then-coordinate_in_range c =
    and_on (held coordinates (search rules) c.coordinate_in_range.ensures) c.if-coordinate_in_range.true
    (held coordinates (search rules) c.coordinate_in_range-then-coordinate_in_range.ensures) ∙ sym (in_two _ _ _ _)

pub returns-else-coordinate_in_range : goal.returns-else-coordinate_in_range
returns-else-coordinate_in_range c =
    and_off _ (held coordinates (search rules) c.coordinate_in_range.ensures) c.if-coordinate_in_range.false ∙ sym (in_two _ _ _ _)
