-- What `change::add_post` owes.
use native.Mathlib.Omega.{arith}
use Rattle.deck.proofs.DeckLaws.{posts_counted}
use Rattle.job.proofs.RangeLaws.{post_range}
use Rattle.change.specs.Change.{add_post}
use Rattle.change.proofs.CodeTests.{out_of_range, within, refused, made, full, room}
use Rattle.change.proofs.add_post.Goals as goal

pub returns-in_err-check_range : goal.returns-in_err-check_range
returns-in_err-check_range c = out_of_range (add_post _) _ c.place_in_range.ensures c.in_err-check_range.ensures.refusal _ c.from_residual.ensures.1

pub returns-then-deck-ge-POSTS : goal.returns-then-deck-ge-POSTS
returns-then-deck-ge-POSTS c =
    let ok = within (add_post _) _ c.place_in_range.ensures c.in_ok-check_range.ensures.refusal in
    refused ok (full _ _ (omega (arith, posts_counted c.args.deck.now c.in_ok-check_range.ensures.sized)))

pub put_post-requires : goal.put_post-requires
put_post-requires c =
    let ok = within (add_post _) _ c.place_in_range.ensures c.in_ok-check_range.ensures.refusal in
    (c.in_ok-check_range.ensures.sized, ok.can, omega arith, post_range _ ok.ranged)

pub returns : goal.returns
returns c =
    let ok = within (add_post _) _ c.place_in_range.ensures c.in_ok-check_range.ensures.refusal in
    made ok (room _ _ (omega (arith, posts_counted c.args.deck.now c.in_ok-check_range.ensures.sized))) c.put_post.ensures
