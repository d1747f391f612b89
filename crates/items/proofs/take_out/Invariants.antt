-- The loop of `items::take_out`.
use mathlib.Core.Path.{◌≡◌}
use Prim.Native.Nat.{◌≤◌}
use Rattle.numbers.proofs.Shifted.{over}
use Rattle.items.proofs.Removal.{removed}
use Rattle.items.proofs.take_out.Given as goal

abbrev pub invariant-loop-place : goal.invariant-loop-place
invariant-loop-place g l = (l.index ≤ l.place) × (l.elements ≡ over (removed l.index l.initial.elements) l.place l.initial.elements)
