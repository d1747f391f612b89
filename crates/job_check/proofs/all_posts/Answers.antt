-- What `job_check::all_posts` owes.
use mathlib.Core.Path.{ap, ◌∙◌}
use native.Mathlib.Omega.{arith}
use lib.ListN.{length, length-take}
use Rattle.deck.specs.DeckOf.{deck_of}
use Rattle.job_check.specs.LineFaults.{checked_as}
use Rattle.job_check.proofs.ShortLaws.{count_most, passed_on}
use Rattle.job_check.proofs.FirstFault.{line_then, line_alone}
use Rattle.job_check.proofs.all_posts.Goals as goal

pub listed_posts-requires : goal.listed_posts-requires
listed_posts-requires c = count_most _ _ _ c.count_line.ensures (ap checked_as c.in_ok-count_line.was)

pub post_lines-requires : goal.post_lines-requires
post_lines-requires c =
    let few = count_most _ _ _ c.count_line.ensures (ap checked_as c.in_ok-count_line.was) in
    (omega (arith, few, length-take c.args.deck.now.post_count c.args.deck.now.posts, ap length c.listed_posts.ensures), omega (arith, c.requires))

pub returns : goal.returns
unfolding deck_of
returns c =
    line_then _ _ _ c.count_line.ensures (ap checked_as c.in_ok-count_line.was) (rw c.listed_posts.ensures at c.post_lines.ensures)

pub returns-in_err-count_line : goal.returns-in_err-count_line
returns-in_err-count_line c =
    passed_on _ c.from_residual.ensures.1 ∙ line_alone _ _ _ c.count_line.ensures (ap checked_as c.in_err-count_line.was)
