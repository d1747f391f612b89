-- What `change::remove_stop` owes.
use native.Mathlib.Omega.{arith}
use borrow.Author.Rules.{rules}
use Rattle.deck.proofs.DeckLaws.{stops_counted}
use Rattle.job.proofs.PartLaws.{handed}
use Rattle.change.specs.Change.{remove_stop}
use Rattle.change.proofs.UsableExactly.{usable_says}
use Rattle.change.proofs.CodeTests.{out_of_range, within, refused, made, absent, only, others, not_found, is_found, stops_in, without_stop}
use Rattle.change.proofs.remove_stop.Goals as goal

pub returns-in_err-check_range : goal.returns-in_err-check_range
returns-in_err-check_range c = out_of_range (remove_stop _) _ c.stop_in_range.ensures c.in_err-check_range.ensures.refusal _ c.from_residual.ensures.1

pub listed_stops-requires : goal.listed_stops-requires
listed_stops-requires c =
    let ok = within (remove_stop _) _ c.stop_in_range.ensures c.in_ok-check_range.ensures.refusal in
    (usable_says c.in_ok-check_range.ensures.sized (search rules) ok.can).listed.stops

pub returns-in_err-i : goal.returns-in_err-i
returns-in_err-i c =
    let ok = within (remove_stop _) _ c.stop_in_range.ensures c.in_ok-check_range.ensures.refusal in
    let stops = stops_in c.args.deck.now c.listed_stops.ensures in
    let absence = not_found _ _ _ (rw stops at c.find_stop.ensures) c.in_err-i.ensures.value in
    rw (handed _ c.from_residual-in_err-i.ensures.1, absence.1) (refused ok (absent _ _ absence.0))

pub returns-then-deck-eq1 : goal.returns-then-deck-eq1
returns-then-deck-eq1 c =
    let ok = within (remove_stop _) _ c.stop_in_range.ensures c.in_ok-check_range.ensures.refusal in
    let stops = stops_in c.args.deck.now c.listed_stops.ensures in
    let found = is_found _ _ _ (rw stops at c.find_stop.ensures) c.in_ok-i.ensures.value in
    refused ok (only _ _ found.0 (omega (arith, stops_counted c.args.deck.now c.in_ok-check_range.ensures.sized)))

pub take_stop-requires : goal.take_stop-requires
take_stop-requires c =
    let ok = within (remove_stop _) _ c.stop_in_range.ensures c.in_ok-check_range.ensures.refusal in
    let stops = stops_in c.args.deck.now c.listed_stops.ensures in
    let found = is_found _ _ _ (rw stops at c.find_stop.ensures) c.in_ok-i.ensures.value in
    let count = stops_counted c.args.deck.now c.in_ok-check_range.ensures.sized in
    (c.in_ok-check_range.ensures.sized, ok.can, omega (arith, found.2, count), omega (arith, found.2, count))

pub returns : goal.returns
returns c =
    let ok = within (remove_stop _) _ c.stop_in_range.ensures c.in_ok-check_range.ensures.refusal in
    let stops = stops_in c.args.deck.now c.listed_stops.ensures in
    let found = is_found _ _ _ (rw stops at c.find_stop.ensures) c.in_ok-i.ensures.value in
    made ok (others _ _ found.0 (omega (arith, stops_counted c.args.deck.now c.in_ok-check_range.ensures.sized))) (without_stop _ _ found.1 c.take_stop.ensures)
