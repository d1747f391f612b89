-- What `kernels::Near::at` owes.
use mathlib.Core.Path.{◌≡◌, ap}
use mathlib.Core.List.{List, map}
use Prim.Native.Nat.{ℕ, ◌%◌, ◌≤◌}
use native.Mathlib.Omega.{arith}
use lib.ListN.{get_or, take, length-take}
use Rattle.numbers.specs.Padded.{padded}
use Rattle.query.specs.Range.{stops_limit, travel_limit}
use Rattle.query.specs.Travel.{near}
use Rattle.deck.specs.declared.Deck.{Deck}
use Rattle.deck.specs.DeckOf.{deck_of}
use Rattle.deck.specs.Values.{held_axis, place_of, stop_of}
use Rattle.deck.proofs.DeckLaws.{costs_range, stops_range, posts_range, places_of_stops}
use Rattle.deck.proofs.SoundLaws.{sound_listed, sound_posts, sound_limit}
use Rattle.columns.specs.StopFigures.{Nears}
use Rattle.job.proofs.FilledLaws.{near_is}
use Rattle.kernels.proofs.NearKernel.at.Goals as goal

pub listed_posts-requires : goal.listed_posts-requires
listed_posts-requires c = (sound_listed c.args.o.now.sound).posts

pub listed_stops-requires : goal.listed_stops-requires
listed_stops-requires c = (sound_listed c.args.o.now.sound).stops

pub nears_of-near-requires : goal.nears_of-near-requires
nears_of-near-requires c =
    let deck = c.args.o.now.deck in
    let sound = c.args.o.now.sound in
    let listed = sound_listed sound in
    rw (c.listed_posts.ensures, c.listed_stops.ensures) (
      costs_range _ sound.range,
      posts_range _ sound.range,
      places_of_stops (stops_range _ sound.range),
      omega (arith, length-take deck.post_count deck.posts, listed.sized.posts, listed.posts, sound_posts sound, sound.range.some_posts),
    )

-- near found of the posts and stops that a record lists is that of its deck
found_near : (deck : Deck) {column : List ℕ} →
    Nears (held_axis deck.axis) (map place_of (take deck.post_count deck.posts)) (map stop_of (take deck.stop_count deck.stops)) column →
    column ≡ padded stops_limit 0 (map (near (deck_of deck)) (deck_of deck).stops)
unfolding deck_of
found_near deck found = near_is (deck_of deck) found

pub returns : goal.returns
returns c =
    let i = c.args.t % stops_limit in
    let deck = deck_of c.args.o.now.deck in
    let found : c.nears_of-near.result ≡ padded stops_limit 0 (map (near deck) deck.stops) =
    found_near c.args.o.now.deck (rw (c.listed_posts.ensures, c.listed_stops.ensures) at c.nears_of-near.ensures) in
    let most : get_or c.nears_of-near.result i 0 ≤ travel_limit = rw found (sound_limit c.args.o.now.sound i) in
    record {
      is = ap (λ (l : List ℕ). get_or l i 0) found;
      within = omega (arith, most);
    }
