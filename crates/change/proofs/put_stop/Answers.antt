-- What `change::put_stop` owes.
use mathlib.Core.Path.{◌≡◌, ◌∙◌}
use native.Mathlib.Omega.{arith}
use lib.ListN.{length, length-take}
use borrow.Author.Rules.{rules}
use Rattle.query.specs.Range.{stops_limit}
use Rattle.deck.specs.DeckOf.{deck_of}
use Rattle.deck.proofs.DeckLaws.{posts_counted}
use Rattle.change.proofs.UsableExactly.{usable_says}
use Rattle.change.proofs.FrontChanges.{stops_more, nears_more}
use Rattle.change.proofs.KeptNears.{closest_limit}
use Rattle.change.proofs.MadeRecords.{made_stop}
use Rattle.change.proofs.put_stop.Goals as goal

pub listed_posts-requires : goal.listed_posts-requires
listed_posts-requires c = (usable_says c.requires.0 (search rules) c.requires.1).listed.posts

pub near_of-requires : goal.near_of-requires
near_of-requires c =
    let deck = c.args.deck.now in
    let u = usable_says c.requires.0 (search rules) c.requires.1 in
    rw c.listed_posts.ensures (
      u.costs,
      u.posts,
      c.requires.3.place,
      omega (arith, u.range.some_posts, posts_counted deck c.requires.0, length-take deck.post_count deck.posts),
    )

pub renew_before-requires : goal.renew_before-requires
unfolding deck_of
renew_before-requires c =
    let deck = c.args.deck.now in
    let long : length deck.near ≡ stops_limit = search rules in
    let u = usable_says c.requires.0 long c.requires.1 in
    let near = rw c.listed_posts.ensures at c.near_of.ensures in
    let limit = closest_limit u.range.axis_most u.range.some_posts u.range.posts _ c.requires.3.place in (
      stops_more deck.stops _ u.stops (omega (arith, c.requires.2, c.requires.0.stops)) c.requires.2 c.requires.3,
      nears_more u.nears (omega (arith, c.requires.2, long)) (omega (arith, near, limit)),
      omega (arith, c.requires.2),
    )

pub returns : goal.returns
unfolding deck_of
returns c = c.renew_before.ensures ∙ made_stop c.args.deck.now c.args.stop (rw c.listed_posts.ensures at c.near_of.ensures)
