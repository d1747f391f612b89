-- What `trial::opened::place_in_range` owes.
use mathlib.Core.Path.{◌∙◌}
use Rattle.trial.proofs.RectLaws.{place_test}
use Rattle.trial.proofs.opened.place_in_range.Goals as goal

pub returns : goal.returns
returns c = c.place_in_range.ensures ∙ place_test c.args.place
