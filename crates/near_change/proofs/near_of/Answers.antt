-- What `near_change::near_of` owes.
use mathlib.Core.Path.{ap}
use Rattle.deck.specs.Values.{held_axis}
use Rattle.near_change.proofs.ScaledLaws.{closest_found}
use Rattle.near_change.proofs.near_of.Goals as goal

pub returns : goal.returns
returns c = closest_found (ap held_axis c.of.ensures.axis) _ c.of.ensures.posts _ c.closest_to.ensures
