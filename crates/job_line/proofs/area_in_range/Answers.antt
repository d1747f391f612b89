-- What `job_line::area_in_range` owes.
use mathlib.Core.Path.{sym, ◌∙◌}
use Rattle.job_line.proofs.RangeTests.{and_on, and_off, in_more}
use Rattle.job_line.proofs.area_in_range.Goals as goal

pub returns-then-place_in_range : goal.returns-then-place_in_range
returns-then-place_in_range c =
    and_on (rw c.low.ensures at c.place_in_range.ensures) c.if-place_in_range.true
    (rw c.high.ensures at c.place_in_range-then-place_in_range.ensures) ∙ sym (in_more _ _ _ _ _ _)

pub returns-else-place_in_range : goal.returns-else-place_in_range
returns-else-place_in_range c = and_off _ (rw c.low.ensures at c.place_in_range.ensures) c.if-place_in_range.false ∙ sym (in_more _ _ _ _ _ _)
