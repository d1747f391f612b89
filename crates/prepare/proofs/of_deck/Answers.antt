-- What `prepare::of_deck` owes.
use Rattle.deck.proofs.SoundLaws.{sound_listed}
use Rattle.prepare.proofs.MadeProblem.{objects_range, area_ranged, made_problem}
use Rattle.prepare.proofs.of_deck.Goals as goal

pub listed_stops-stops-requires : goal.listed_stops-stops-requires
listed_stops-stops-requires c = (sound_listed c.requires).stops

pub listed_near-requires : goal.listed_near-requires
listed_near-requires c = (sound_listed c.requires).stops

pub of_stops-objects-requires : goal.of_stops-objects-requires
of_stops-objects-requires c = rw (c.listed_stops-stops.ensures, c.listed_near.ensures) (objects_range _ c.requires)

pub reach_flags-flags-requires : goal.reach_flags-flags-requires
reach_flags-flags-requires c = area_ranged _ c.requires

pub returns : goal.returns
returns c =
    let stops = c.listed_stops-stops.ensures in
    made_problem _ c.requires c.of_stops-objects.result (rw (stops, c.listed_near.ensures) at c.of_stops-objects.ensures) _ c.reach_flags-flags.ensures _ _
    (rw stops at c.find_lines-vertical.ensures.whole) (rw stops at c.find_lines-horizontal.ensures.whole)
