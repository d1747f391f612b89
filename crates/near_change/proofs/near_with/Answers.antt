-- What `near_change::near_with` owes.
use mathlib.Core.Path.{ap, ◌∙◌}
use Prim.Native.Nat.{ℕ, min}
use Rattle.near_change.specs.NearChange.{near_with}
use Rattle.near_change.proofs.near_with.Goals as goal

pub returns : goal.returns
unfolding near_with
returns c = c.min.ensures ∙ ap (λ (t : ℕ). min c.args.near t) c.travel.ensures
