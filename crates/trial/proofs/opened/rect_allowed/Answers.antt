-- What `trial::opened::rect_allowed` owes.
use mathlib.Core.Path.{ap, ◌∙◌}
use mathlib.Core.Bool.{not}
use Rattle.job_line.proofs.RangeTests.{and_on, and_off}
use Rattle.trial.proofs.RectLaws.{rect_test}
use Rattle.trial.proofs.opened.rect_allowed.Goals as goal

pub returns-then-area_in_range : goal.returns-then-area_in_range
returns-then-area_in_range c =
    and_on c.area_in_range.ensures c.if-area_in_range.true (ap not c.empty_area.ensures) ∙ rect_test c.args.rect

pub returns-else-area_in_range : goal.returns-else-area_in_range
returns-else-area_in_range c = and_off _ c.area_in_range.ensures c.if-area_in_range.false ∙ rect_test c.args.rect
