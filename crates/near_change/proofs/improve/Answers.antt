-- What `near_change::improve` owes.
use Rattle.deck.specs.Values.{no_stop}
use Rattle.deck.proofs.DeckLaws.{stop_place_in_range}
use Rattle.near_change.specs.NearChange.{near_with}
use Rattle.near_change.proofs.NearLaws.{renew_more}
use Rattle.near_change.proofs.improve.Goals as goal

pub near_with-requires : goal.near_with-requires
near_with-requires c = (c.requires.0, stop_place_in_range c.requires.1 c.loop-i.i no_stop c.loop-i-test.true, c.requires.2)

pub loop-i-preserved : goal.loop-i-preserved
loop-i-preserved c = renew_more (near_with _ _) _ _ c.requires.3 c.loop-i.invariant c.loop-i-test.true c.near_with.ensures
