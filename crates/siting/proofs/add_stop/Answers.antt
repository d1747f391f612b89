-- What `siting::add_stop` owes.
use mathlib.Core.Path.{ap}
use Rattle.calls.specs.ChangeCall.{after_change, change_call}
use Rattle.siting.proofs.add_stop.Goals as goal

pub returns : goal.returns
unfolding change_call
returns c = ap after_change c.add_stop.ensures
