-- What `job_line::stop_in_range` owes.
use mathlib.Core.Path.{sym, ◌∙◌}
use Rattle.job_line.specs.Kinds.{visits}
use Rattle.job_line.proofs.RangeTests.{range_held, and_on, and_off, in_one, in_more}
use Rattle.job_line.proofs.stop_in_range.Goals as goal

pub returns-then-place_in_range : goal.returns-then-place_in_range
returns-then-place_in_range c =
    and_on c.place_in_range.ensures c.if-place_in_range.true
    (range_held visits c.ranges.visits c.between.ensures ∙ sym (in_one _ _)) ∙ sym (in_more _ _ _ _ _ _)

pub returns-else-place_in_range : goal.returns-else-place_in_range
returns-else-place_in_range c = and_off _ c.place_in_range.ensures c.if-place_in_range.false ∙ sym (in_more _ _ _ _ _ _)
