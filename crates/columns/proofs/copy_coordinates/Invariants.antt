-- The loop of `columns::copy_coordinates`.
use mathlib.Core.List.{map}
use lib.IntN.{nat_abs}
use lib.ListN.{length}
use Rattle.numbers.specs.Integer.{times}
use Rattle.query.specs.Place.{coordinate}
use Rattle.deck.specs.Values.{axis_of, stop_of}
use Rattle.columns.proofs.CopyLaws.{Copied}
use Rattle.columns.proofs.copy_coordinates.Given as goal

abbrev pub invariant-loop-i : goal.invariant-loop-i
invariant-loop-i l =
    let scaled = map (λ s. times (nat_abs l.cost) (coordinate (axis_of l.axis) (stop_of s).at)) l.from in
    Copied l.initial.to 0 scaled (length scaled) l.to l.i
