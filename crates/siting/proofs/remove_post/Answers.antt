-- What `siting::remove_post` owes.
use mathlib.Core.Path.{ap}
use Rattle.calls.specs.ChangeCall.{after_change, change_call}
use Rattle.siting.proofs.remove_post.Goals as goal

pub returns : goal.returns
unfolding change_call
returns c = ap after_change c.remove_post.ensures
