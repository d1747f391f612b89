-- What `change::put_post` owes.
use mathlib.Core.Path.{◌∙◌}
use native.Mathlib.Omega.{arith}
use lib.ListN.{length-take}
use borrow.Author.Rules.{rules}
use Rattle.deck.specs.DeckOf.{deck_of}
use Rattle.deck.proofs.DeckLaws.{places_of_stops}
use Rattle.change.specs.ChangedRecord.{renewed}
use Rattle.change.proofs.UsableExactly.{usable_says}
use Rattle.change.proofs.KeptNears.{renewed_range, with_limit}
use Rattle.change.proofs.MadeRecords.{made_post}
use Rattle.change.proofs.put_post.Goals as goal

pub shared_ref_as_front-improve : goal.shared_ref_as_front-improve
shared_ref_as_front-improve c = (usable_says c.requires.0 (search rules) c.requires.1).listed.stops

pub improve-requires : goal.improve-requires
improve-requires c =
    let u = usable_says c.requires.0 (search rules) c.requires.1 in
    (u.costs, places_of_stops u.stops, c.requires.3, omega (arith, u.nears.count, length-take c.args.deck.now.stop_count c.args.deck.now.stops))

pub renew_before-requires : goal.renew_before-requires
unfolding renewed
renew_before-requires c =
    let u = usable_says c.requires.0 (search rules) c.requires.1 in
    (u.stops, renewed_range c.args.deck.now _ u.listed u.stops (with_limit _ _) c.improve.ensures u.nears, u.listed.stops)

pub returns : goal.returns
unfolding renewed deck_of
returns c = c.renew_before.ensures ∙ made_post c.args.deck.now c.args.post c.improve.ensures
