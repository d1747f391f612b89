-- What `job_line::axis_in_range` owes.
use mathlib.Core.Path.{sym, ◌∙◌}
use Rattle.job_line.proofs.RangeTests.{and_on, and_off, in_two}
use Rattle.job_line.proofs.axis_in_range.Goals as goal

pub returns-then-cost_in_range : goal.returns-then-cost_in_range
returns-then-cost_in_range c =
    and_on c.cost_in_range.ensures c.if-cost_in_range.true c.cost_in_range-then-cost_in_range.ensures ∙ sym (in_two _ _ _ _)

pub returns-else-cost_in_range : goal.returns-else-cost_in_range
returns-else-cost_in_range c = and_off _ c.cost_in_range.ensures c.if-cost_in_range.false ∙ sym (in_two _ _ _ _)
