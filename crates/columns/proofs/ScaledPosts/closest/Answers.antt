-- What `columns::ScaledPosts::closest` owes.
use Rattle.columns.proofs.PostLaws.{closest_first, closest_next}
use Rattle.columns.proofs.ScaledPosts.closest.Goals as goal

pub loop-j-init : goal.loop-j-init
loop-j-init c =
    closest_first c.args.self.now.x_range c.args.self.now.y_range _ c.args.self.now.some c.post.ensures.0 c.post.ensures.1
    (record { sfits = c.travel_to-least.type_inv }) c.travel_to-least.ensures

pub loop-j-preserved : goal.loop-j-preserved
loop-j-preserved c =
    closest_next c.args.self.now.x_range c.args.self.now.y_range _ _ c.loop-j.auto.j c.loop-j-test.true c.loop-j.invariant
    c.post-in-loop-j.ensures.0 c.post-in-loop-j.ensures.1 (record { sfits = c.closer-least.type_inv }) c.closer-least.ensures
