-- What `change::remove_post` owes.
use native.Mathlib.Omega.{arith}
use borrow.Author.Rules.{rules}
use Rattle.deck.proofs.DeckLaws.{posts_counted}
use Rattle.job.proofs.PartLaws.{handed}
use Rattle.job.proofs.RangeLaws.{post_range}
use Rattle.change.specs.Change.{remove_post}
use Rattle.change.proofs.UsableExactly.{usable_says}
use Rattle.change.proofs.CodeTests.{out_of_range, within, refused, made, absent, only, others, not_found, is_found, posts_in}
use Rattle.change.proofs.remove_post.Goals as goal

pub returns-in_err-check_range : goal.returns-in_err-check_range
returns-in_err-check_range c = out_of_range (remove_post _) _ c.place_in_range.ensures c.in_err-check_range.ensures.refusal _ c.from_residual.ensures.1

pub listed_posts-requires : goal.listed_posts-requires
listed_posts-requires c =
    let ok = within (remove_post _) _ c.place_in_range.ensures c.in_ok-check_range.ensures.refusal in
    (usable_says c.in_ok-check_range.ensures.sized (search rules) ok.can).listed.posts

pub returns-in_err-i : goal.returns-in_err-i
returns-in_err-i c =
    let ok = within (remove_post _) _ c.place_in_range.ensures c.in_ok-check_range.ensures.refusal in
    let posts = posts_in c.args.deck.now c.listed_posts.ensures in
    let absence = not_found _ _ _ (rw posts at c.find_post.ensures) c.in_err-i.ensures.value in
    rw (handed _ c.from_residual-in_err-i.ensures.1, absence.1) (refused ok (absent _ _ absence.0))

pub returns-then-deck-eq1 : goal.returns-then-deck-eq1
returns-then-deck-eq1 c =
    let ok = within (remove_post _) _ c.place_in_range.ensures c.in_ok-check_range.ensures.refusal in
    let posts = posts_in c.args.deck.now c.listed_posts.ensures in
    let found = is_found _ _ _ (rw posts at c.find_post.ensures) c.in_ok-i.ensures.value in
    refused ok (only _ _ found.0 (omega (arith, posts_counted c.args.deck.now c.in_ok-check_range.ensures.sized)))

pub take_post-requires : goal.take_post-requires
take_post-requires c =
    let ok = within (remove_post _) _ c.place_in_range.ensures c.in_ok-check_range.ensures.refusal in
    let posts = posts_in c.args.deck.now c.listed_posts.ensures in
    let found = is_found _ _ _ (rw posts at c.find_post.ensures) c.in_ok-i.ensures.value in
    let count = posts_counted c.args.deck.now c.in_ok-check_range.ensures.sized in
    (c.in_ok-check_range.ensures.sized, ok.can, post_range _ ok.ranged, found.1, omega (arith, found.2, count), omega (arith, found.2, count))

pub returns : goal.returns
returns c =
    let ok = within (remove_post _) _ c.place_in_range.ensures c.in_ok-check_range.ensures.refusal in
    let posts = posts_in c.args.deck.now c.listed_posts.ensures in
    let found = is_found _ _ _ (rw posts at c.find_post.ensures) c.in_ok-i.ensures.value in
    made ok (others _ _ found.0 (omega (arith, posts_counted c.args.deck.now c.in_ok-check_range.ensures.sized))) c.take_post.ensures
