-- The loops of `pricing::put_spared`.
use Rattle.reach.specs.Held.{columns_of_objects, edges_rect}
use Rattle.pricing.specs.Spared.{scaled_place_of, SparedBy}
use Rattle.pricing.proofs.put_spared.Given as goal

abbrev pub invariant-loop-i : goal.invariant-loop-i
invariant-loop-i l = SparedBy (columns_of_objects l.objects) l.i (scaled_place_of l.low) (scaled_place_of l.high) (edges_rect l.first)
    (edges_rect l.second) l.spared
