-- The loop of `near_change::reprice`.
use mathlib.Core.List.{zip_with}
use lib.ListN.{length}
use Rattle.columns.specs.Held.{axis_of_posts, places_of_posts}
use Rattle.deck.specs.Values.{held_axis, place_of, stop_of}
use Rattle.columns.proofs.CopyLaws.{Copied}
use Rattle.near_change.specs.NearChange.{near_but}
use Rattle.near_change.proofs.reprice.Given as goal

abbrev pub invariant-loop-i : goal.invariant-loop-i
invariant-loop-i l = Copied l.initial.near 0
    (zip_with (λ s n. near_but (held_axis (axis_of_posts l.left)) (place_of l.post) (places_of_posts l.left) (stop_of s).at n) l.stops l.initial.near)
    (length l.stops) l.near l.i
