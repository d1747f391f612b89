-- What `items::find_post` owes.
use mathlib.Core.Path.{◌∙◌}
use Rattle.std.proofs.Common.{rules, tests}
use Rattle.std.proofs.lemmas.Iterator.{YieldsList-from_slice}
use Rattle.std.proofs.lemmas.Iterator.Search.{position_from_yields_List}
use Rattle.deck.specs.Values.{place_of}
use Rattle.items.specs.Items.{is_same_place}
use Rattle.items.proofs.Found.{found_is}
use Rattle.items.proofs.find_post.Goals as goal

pub returns : goal.returns
returns c =
    position_from_yields_List (λ post. is_same_place (place_of c.args.place) (place_of post)) _ _ c.position.result c.position.ensures.ran
    (YieldsList-from_slice c.args.posts.now (search rules)) (λ x b q k. search (rules, tests))
    ∙ found_is place_of (is_same_place (place_of c.args.place)) c.args.posts.now
