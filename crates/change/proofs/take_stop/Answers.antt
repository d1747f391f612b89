-- What `change::take_stop` owes.
use mathlib.Core.Path.{◌∙◌}
use native.Mathlib.Omega.{arith}
use borrow.Author.Rules.{rules}
use Rattle.deck.specs.DeckOf.{deck_of}
use Rattle.change.proofs.UsableExactly.{usable_says}
use Rattle.change.proofs.FrontChanges.{stops_left, nears_left}
use Rattle.change.proofs.MadeRecords.{stop_taken, near_taken, removed_stop}
use Rattle.change.proofs.take_stop.Goals as goal

pub slice_bounds-take_out-end : goal.slice_bounds-take_out-end
slice_bounds-take_out-end c = (usable_says c.requires.0 (search rules) c.requires.1).listed.stops

pub renew_before-requires : goal.renew_before-requires
renew_before-requires c =
    let u = usable_says c.requires.0 (search rules) c.requires.1 in
    rw (stop_taken u c.requires.2 c.take_out.ensures, near_taken u c.requires.2 c.take_out-2.ensures) (
      stops_left c.requires.2 c.args.deck.now.stops (omega (arith, u.listed.stops, c.requires.0.stops)) u.listed.stops u.stops,
      nears_left c.requires.2 u.nears,
      omega (arith, u.listed.stops),
    )

pub returns : goal.returns
unfolding deck_of
returns c =
    let u = usable_says c.requires.0 (search rules) c.requires.1 in
    c.renew_before.ensures ∙ removed_stop u c.requires.2 c.take_out.ensures c.take_out-2.ensures
