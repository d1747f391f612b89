-- What `siting::add_post` owes.
use mathlib.Core.Path.{ap}
use Rattle.calls.specs.ChangeCall.{after_change, change_call}
use Rattle.siting.proofs.add_post.Goals as goal

pub returns : goal.returns
unfolding change_call
returns c = ap after_change c.add_post.ensures
