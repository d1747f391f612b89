-- What `columns::put_places` owes.
use mathlib.Core.Path.{sym, ◌∙◌}
use mathlib.Core.List.{map, map-map}
use lib.ListN.{length-map}
use Rattle.numbers.specs.Integer.{times}
use Rattle.query.specs.Deck.{Stop}
use Rattle.deck.specs.Values.{stop_of}
use Rattle.columns.proofs.MadeColumns.{placed}
use Rattle.columns.proofs.ScaleLaws.{natural_word}
use Rattle.columns.proofs.put_places.Goals as goal

pub returns : goal.returns
returns c =
    let stops = map stop_of c.args.stops.now in
    let u = λ (s : Stop). times c.args.axis.a s.at.x in
    let w = λ (s : Stop). times c.args.axis.b s.at.y in
    let count = length-map c.args.stops.now stop_of in
    placed _ _ (map u stops) (map w stops)
    ((rw (natural_word _ c.requires.0.most.0) at c.copy_coordinates.ensures) ∙ sym (map-map u stop_of c.args.stops.now))
    ((rw (natural_word _ c.requires.0.most.1) at c.copy_coordinates-2.ensures) ∙ sym (map-map w stop_of c.args.stops.now))
    (length-map stops u ∙ count) (length-map stops w ∙ count)
