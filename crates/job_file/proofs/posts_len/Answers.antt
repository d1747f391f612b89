-- What `job_file::posts_len` owes.
use mathlib.Core.Path.{ap, sym, ◌∙◌}
use native.Mathlib.Omega.{arith}
use lib.ListN.{length, get_or}
use Rattle.deck.specs.Values.{place_of, no_place}
use Rattle.job.specs.Spelling.{post_line}
use Rattle.job_file.proofs.TextLaws.{texts_none, texts_all, line_counted, length_post}
use Rattle.job_file.proofs.posts_len.Goals as goal

pub loop-post-init : goal.loop-post-init
loop-post-init c = (sym (ap length (texts_none post_line place_of c.args.posts.now)), omega arith)

pub loop-post-preserved : goal.loop-post-preserved
loop-post-preserved c = (
  omega (
    arith,
    c.loop-post.invariant.0,
    c.place_len.ensures.value,
    line_counted post_line place_of c.args.posts.now c.loop-post.post-index no_place c.loop-post-test.true,
    length_post (place_of (get_or c.args.posts.now c.loop-post.post-index no_place)),
  ),
  omega arith,
)

pub returns-clause-value : goal.returns-clause-value
returns-clause-value c = c.loop-post.invariant.0 ∙ ap length (texts_all post_line place_of c.args.posts.now c.loop-post-test.false)
