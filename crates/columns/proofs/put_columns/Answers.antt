-- What `columns::put_columns` owes.
use mathlib.Core.Path.{sym, ◌∙◌}
use mathlib.Core.List.{map, map-map}
use lib.IntN.{pos}
use lib.ListN.{length-map}
use Rattle.query.specs.Deck.{Stop}
use Rattle.deck.specs.Values.{stop_of}
use Rattle.columns.proofs.MadeColumns.{made_columns}
use Rattle.columns.proofs.ScaleLaws.{natural_word}
use Rattle.columns.proofs.put_columns.Goals as goal

pub returns : goal.returns
returns c =
    let stops = c.args.stops.now in
    made_columns _ (map stop_of stops) c.args.near.now (length-map stops stop_of) c.requires.4 c.requires.1.few
    (rw c.requires.5 at c.put_places.ensures) (c.copy_visits.ensures ∙ sym (map-map (λ (s : Stop). pos s.visits) stop_of stops)) c.copy_near.ensures
    (natural_word _ c.requires.0.most.0) (natural_word _ c.requires.0.most.1)
