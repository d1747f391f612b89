-- What `change::add_stop` owes.
use native.Mathlib.Omega.{arith}
use Rattle.deck.proofs.DeckLaws.{stops_counted}
use Rattle.job.proofs.RangeLaws.{stop_range}
use Rattle.change.specs.Change.{add_stop}
use Rattle.change.proofs.CodeTests.{out_of_range, within, refused, made, full, room}
use Rattle.change.proofs.add_stop.Goals as goal

pub returns-in_err-check_range : goal.returns-in_err-check_range
returns-in_err-check_range c = out_of_range (add_stop _) _ c.stop_in_range.ensures c.in_err-check_range.ensures.refusal _ c.from_residual.ensures.1

pub returns-then-deck-ge-STOPS : goal.returns-then-deck-ge-STOPS
returns-then-deck-ge-STOPS c =
    let ok = within (add_stop _) _ c.stop_in_range.ensures c.in_ok-check_range.ensures.refusal in
    refused ok (full _ _ (omega (arith, stops_counted c.args.deck.now c.in_ok-check_range.ensures.sized)))

pub put_stop-requires : goal.put_stop-requires
put_stop-requires c =
    let ok = within (add_stop _) _ c.stop_in_range.ensures c.in_ok-check_range.ensures.refusal in
    (c.in_ok-check_range.ensures.sized, ok.can, omega arith, stop_range _ ok.ranged)

pub returns : goal.returns
returns c =
    let ok = within (add_stop _) _ c.stop_in_range.ensures c.in_ok-check_range.ensures.refusal in
    made ok (room _ _ (omega (arith, stops_counted c.args.deck.now c.in_ok-check_range.ensures.sized))) c.put_stop.ensures
