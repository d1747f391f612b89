-- What `search::halves::halve` owes.
use mathlib.Core.Path.{ap}
use Rattle.query.specs.Place.{x_axis, y_axis}
use Rattle.deck.specs.Values.{axis_of}
use Rattle.search.proofs.CutParts.{cut_there, words_ranged, halves_are}
use Rattle.search.proofs.halves.halve.Goals as goal

pub unwrap-cut-requires : goal.unwrap-cut-requires
unwrap-cut-requires c = cut_there _ _ c.requires.1 _ c.cut_of.ensures

-- the parts are in range
pub parts-requires : goal.parts-requires
parts-requires c =
    let ranged = words_ranged _ _ c.requires.1 _ c.cut_of.ensures _ c.unwrap-cut.ensures x_axis (ap axis_of c.in-X.is) in
    (c.requires.0, ranged.0, ranged.1)

pub parts-requires-in-Y : goal.parts-requires-in-Y
parts-requires-in-Y c =
    let ranged = words_ranged _ _ c.requires.1 _ c.cut_of.ensures _ c.unwrap-cut.ensures y_axis (ap axis_of c.in-Y.is) in
    (c.requires.0, ranged.0, ranged.1)

pub returns-in-X : goal.returns-in-X
returns-in-X c =
    halves_are _ _ c.requires.1 _ c.cut_of.ensures _ c.unwrap-cut.ensures x_axis (ap axis_of c.in-X.is) _ _ c.parts.ensures

pub returns-in-Y : goal.returns-in-Y
returns-in-Y c =
    halves_are _ _ c.requires.1 _ c.cut_of.ensures _ c.unwrap-cut.ensures y_axis (ap axis_of c.in-Y.is) _ _ c.parts-in-Y.ensures
