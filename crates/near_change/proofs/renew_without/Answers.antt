-- What `near_change::renew_without` owes.
use mathlib.Core.Path.{ap}
use mathlib.Core.List.{map}
use lib.ListN.{length}
use Rattle.deck.specs.Values.{held_axis, place_of}
use Rattle.near_change.proofs.ScaledLaws.{renewed_without}
use Rattle.near_change.proofs.renew_without.Goals as goal

pub returns : goal.returns
returns c =
    renewed_without (ap held_axis c.of-left.ensures.axis) (map place_of c.args.left.now) c.of-left.ensures.posts (place_of c.args.post) c.args.near.now
    c.args.stops.now (length c.args.stops.now) c.reprice.ensures
