-- What `columns::put_nears` owes.
use native.Mathlib.Omega.{arith}
use Rattle.columns.proofs.SoFarLaws.{posts_first, posts_ranged, posts_next, posts_all}
use Rattle.columns.proofs.put_nears.Goals as goal

pub loop-j-init : goal.loop-j-init
loop-j-init c =
    let posts = c.args.posts.now in
    let first = rw (c.post.ensures.0, c.post.ensures.1) at c.start_nears.ensures in
    (posts.some, posts_first c.requires posts.some posts.x_range posts.y_range first)

pub improve_nears-requires : goal.improve_nears-requires
improve_nears-requires c =
    let posts = c.args.posts.now in
    let first = rw (c.post.ensures.0, c.post.ensures.1) at c.start_nears.ensures in
    posts_ranged c.requires posts.some posts.x_range posts.y_range first _ c.loop-j.invariant.1

pub loop-j-preserved : goal.loop-j-preserved
loop-j-preserved c =
    let posts = c.args.posts.now in
    let first = rw (c.post.ensures.0, c.post.ensures.1) at c.start_nears.ensures in (
      omega arith,
      posts_next c.requires posts.some posts.x_range posts.y_range first _ c.loop-j.invariant.1 c.loop-j-test.true
          (rw (c.post-in-loop-j.ensures.0, c.post-in-loop-j.ensures.1) at c.improve_nears.ensures),
    )

pub returns : goal.returns
returns c =
    let posts = c.args.posts.now in
    let first = rw (c.post.ensures.0, c.post.ensures.1) at c.start_nears.ensures in
    posts_all c.requires posts.some posts.x_range posts.y_range first _ c.loop-j.invariant.1 c.loop-j.invariant.0 c.loop-j-test.false
