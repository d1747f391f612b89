-- The loop of `near_change::improve`.
use mathlib.Core.List.{zip_with}
use lib.ListN.{length}
use Rattle.deck.specs.Values.{held_axis, place_of, stop_of}
use Rattle.columns.proofs.CopyLaws.{Copied}
use Rattle.near_change.specs.NearChange.{near_with}
use Rattle.near_change.proofs.improve.Given as goal

abbrev pub invariant-loop-i : goal.invariant-loop-i
invariant-loop-i l = Copied l.initial.near 0
    (zip_with (λ s n. near_with (held_axis l.axis) (place_of l.post) (stop_of s).at n) l.stops l.initial.near) (length l.stops) l.near l.i
