-- What `reach::objects::Objects::of_stops` owes.
use mathlib.Core.Path.{refl}
use lib.ListN.{length-map}
use mathlib.Core.List.{map}
use Rattle.deck.specs.Values.{stop_of}
use Rattle.deck.proofs.DeckLaws.{places_of_stops, visits_of_stops}
use Rattle.reach.proofs.RecordLaws.{stored_priceable}
use Rattle.reach.proofs.objects.Objects.of_stops.Goals as goal

pub put_columns-requires : goal.put_columns-requires
put_columns-requires c =
    let (costs, stops, nears, count) = c.requires in
    (costs, places_of_stops stops, visits_of_stops stops, nears, count, refl)

pub invariant_of-result : goal.invariant_of-result
invariant_of-result c =
    let (costs, stops, nears, count) = c.requires in
    record {
      priceable = rw c.put_columns.ensures
          (stored_priceable _ (map stop_of c.args.stops.now) c.args.near.now costs stops.each (length-map c.args.stops.now stop_of) stops.few nears count);
    }
