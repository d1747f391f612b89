-- What `job_file::put_posts` owes.
use Rattle.write.proofs.WrittenLaws.{wrote_nothing}
use Rattle.deck.specs.Values.{place_of, no_place}
use Rattle.job.specs.Spelling.{post_line}
use Rattle.job_file.proofs.TextLaws.{texts_none, texts_all, line_room, line_wrote}
use Rattle.job_file.proofs.put_posts.Goals as goal

pub loop-post-init : goal.loop-post-init
loop-post-init c = rw (texts_none post_line place_of c.args.posts.now) (wrote_nothing c.args.w.now)

pub put_post-requires : goal.put_post-requires
put_post-requires c = line_room post_line place_of c.args.posts.now c.loop-post.post-index no_place c.loop-post-test.true c.loop-post.invariant c.requires

pub loop-post-preserved : goal.loop-post-preserved
loop-post-preserved c =
    line_wrote post_line place_of c.args.posts.now c.loop-post.post-index no_place c.loop-post-test.true c.loop-post.invariant c.put_post.ensures

pub returns : goal.returns
returns c = rw (texts_all post_line place_of c.args.posts.now c.loop-post-test.false) at c.loop-post.invariant
