-- What `columns::nears_of` owes.
use native.Mathlib.Omega.{arith}
use lib.ListN.{length-map}
use Rattle.deck.specs.Values.{place_of, stop_of}
use Rattle.columns.proofs.MadeNears.{stops_copied, near_held, made_nears}
use Rattle.columns.proofs.nears_of.Goals as goal

pub put_nears-requires : goal.put_nears-requires
put_nears-requires c =
    let (costs, posts, stops, some) = c.requires in
    stops_copied costs posts.each stops.each (length-map c.args.stops.now stop_of) stops.few (omega (arith, length-map c.args.posts.now place_of))
    c.put_places.ensures

pub nears_in-requires : goal.nears_in-requires
nears_in-requires c =
    let (costs, posts, stops, some) = c.requires in (
      stops.few,
      near_held costs posts.each stops.each (length-map c.args.stops.now stop_of) stops.few (omega (arith, length-map c.args.posts.now place_of))
          c.put_places.ensures c.of-posts.ensures.posts c.put_nears.ensures,
    )

pub returns : goal.returns
returns c =
    let (costs, posts, stops, some) = c.requires in
    made_nears costs posts.each stops.each (length-map c.args.stops.now stop_of) stops.few (omega (arith, length-map c.args.posts.now place_of))
    c.put_places.ensures c.of-posts.ensures.posts c.put_nears.ensures c.nears_in.ensures
