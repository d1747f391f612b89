-- What `near_change::reprice` owes.
use Rattle.deck.specs.Values.{no_stop}
use Rattle.deck.proofs.DeckLaws.{stop_place_in_range}
use Rattle.near_change.specs.NearChange.{near_but}
use Rattle.near_change.proofs.NearLaws.{renew_more}
use Rattle.near_change.proofs.reprice.Goals as goal

pub near_without-requires : goal.near_without-requires
near_without-requires c = (stop_place_in_range c.requires.0 c.loop-i.i no_stop c.loop-i-test.true, c.requires.1)

pub loop-i-preserved : goal.loop-i-preserved
loop-i-preserved c = renew_more (near_but _ _ _) _ _ c.requires.2 c.loop-i.invariant c.loop-i-test.true c.near_without.ensures
