-- What `change::take_post` owes.
use mathlib.Core.Path.{◌∙◌}
use native.Mathlib.Omega.{arith}
use lib.ListN.{length-take}
use borrow.Author.Rules.{rules}
use Rattle.deck.specs.DeckOf.{deck_of}
use Rattle.deck.proofs.DeckLaws.{places_of_stops}
use Rattle.change.specs.ChangedRecord.{renewed}
use Rattle.change.proofs.UsableExactly.{usable_says}
use Rattle.change.proofs.KeptNears.{renewed_range, without_limit}
use Rattle.change.proofs.MadeRecords.{left_range, left_some, left_limit, removed_post}
use Rattle.change.proofs.take_post.Goals as goal

pub slice_bounds-take_out-end : goal.slice_bounds-take_out-end
slice_bounds-take_out-end c = (usable_says c.requires.0 (search rules) c.requires.1).listed.posts

pub shared_ref_as_front-renew_without : goal.shared_ref_as_front-renew_without
shared_ref_as_front-renew_without c = (usable_says c.requires.0 (search rules) c.requires.1).listed.stops

pub shared_ref_as_front-renew_without-2 : goal.shared_ref_as_front-renew_without-2
shared_ref_as_front-renew_without-2 c =
    let u = usable_says c.requires.0 (search rules) c.requires.1 in
    omega (arith, u.listed.posts)

pub renew_without-requires : goal.renew_without-requires
renew_without-requires c =
    let u = usable_says c.requires.0 (search rules) c.requires.1 in (
      u.costs,
      places_of_stops u.stops,
      c.requires.2,
      omega (arith, u.nears.count, length-take c.args.deck.now.stop_count c.args.deck.now.stops),
      left_range u c.requires.4 c.take_out.ensures,
      left_some u c.requires.4 c.take_out.ensures c.requires.5,
    )

pub renew_before-requires : goal.renew_before-requires
unfolding renewed
renew_before-requires c =
    let u = usable_says c.requires.0 (search rules) c.requires.1 in
    let limit = without_limit _ _ (left_limit u c.requires.4 c.take_out.ensures c.requires.5) _ in
    (u.stops, renewed_range c.args.deck.now _ u.listed u.stops limit c.renew_without.ensures u.nears, u.listed.stops)

pub returns : goal.returns
unfolding renewed deck_of
returns c =
    let u = usable_says c.requires.0 (search rules) c.requires.1 in
    c.renew_before.ensures ∙ removed_post u c.requires.4 c.take_out.ensures _ c.requires.3 c.renew_without.ensures
