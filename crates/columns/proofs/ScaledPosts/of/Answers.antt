-- What `columns::ScaledPosts::of` owes.
use mathlib.Core.Path.{◌∙◌}
use Rattle.deck.specs.Values.{no_place}
use Rattle.deck.proofs.DeckLaws.{post_in_range}
use Rattle.columns.proofs.WordLaws.{coordinate}
use Rattle.columns.proofs.PostLaws.{scaling_none, scaling_more, scaled_x, scaled_y, scaled_posts}
use Rattle.columns.proofs.ScaledPosts.of.Goals as goal

pub loop-j-init : goal.loop-j-init
loop-j-init c = scaling_none c.requires.0 c.requires.1

pub of-post-requires : goal.of-post-requires
of-post-requires c = (c.requires.0, post_in_range c.requires.1 c.loop-j.j no_place c.loop-j-test.true)

pub loop-j-preserved : goal.loop-j-preserved
loop-j-preserved c =
    let scaled = c.of-post.result in
    scaling_more c.requires.0 c.requires.1 c.loop-j.invariant c.loop-j-test.true
    (coordinate scaled.x scaled.in_range.x_range ∙ c.of-post.ensures.0) (coordinate scaled.y scaled.in_range.y_range ∙ c.of-post.ensures.1)

pub invariant_of-result : goal.invariant_of-result
invariant_of-result c = record {
  costs = c.requires.0;
  x_range = scaled_x c.requires.0 c.requires.1 c.loop-j.invariant c.loop-j-test.false;
  y_range = scaled_y c.requires.0 c.requires.1 c.loop-j.invariant c.loop-j-test.false;
  some = c.requires.2;
}

pub returns-clause-posts : goal.returns-clause-posts
returns-clause-posts c = scaled_posts c.requires.0 c.requires.1 c.loop-j.invariant c.loop-j-test.false
