-- What `items::find_stop` owes.
use mathlib.Core.Path.{◌∙◌}
use Rattle.std.proofs.Common.{rules, tests}
use Rattle.std.proofs.lemmas.Iterator.{YieldsList-from_slice}
use Rattle.std.proofs.lemmas.Iterator.Search.{position_from_yields_List}
use Rattle.deck.specs.Values.{stop_of}
use Rattle.items.specs.Items.{is_same_stop}
use Rattle.items.proofs.Found.{found_is}
use Rattle.items.proofs.find_stop.Goals as goal

pub returns : goal.returns
returns c =
    position_from_yields_List (λ stop. is_same_stop (stop_of c.args.stop) (stop_of stop)) _ _ c.position.result c.position.ensures.ran
    (YieldsList-from_slice c.args.stops.now (search rules)) (λ x b q k. search (rules, tests))
    ∙ found_is stop_of (is_same_stop (stop_of c.args.stop)) c.args.stops.now
