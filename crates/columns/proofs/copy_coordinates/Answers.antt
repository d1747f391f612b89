-- What `columns::copy_coordinates` owes.
use mathlib.Core.Path.{sym, ap, ◌∙◌}
use Prim.Native.Nat.{◌≤◌}
use native.Mathlib.Omega.{arith}
use lib.IntN.{pos, nat_abs}
use lib.ListN.{length-map}
use mir.Syntax.{w32}
use mir.Val.{to_z, of_z}
use Rattle.numbers.specs.Integer.{times}
use Rattle.query.specs.Range.{coordinate_limit}
use Rattle.query.specs.Place.{coordinate as along}
use Rattle.deck.specs.declared.Stop.{Stop}
use Rattle.deck.specs.Values.{axis_of, stop_of, no_stop}
use Rattle.deck.proofs.DeckLaws.{stop_place_in_range}
use Rattle.numbers.proofs.Joined.{map_at}
use Rattle.columns.proofs.WordLaws.{coordinate, wide}
use Rattle.columns.proofs.ScaleLaws.{along_range, scaled_word}
use Rattle.columns.proofs.CopyLaws.{copied_none, copied_start, copied_whole}
use Rattle.columns.proofs.copy_coordinates.Goals as goal

pub loop-i-init : goal.loop-i-init
loop-i-init c = copied_none _ _ _ _

pub scaled-requires : goal.scaled-requires
scaled-requires c =
    let at = stop_place_in_range c.requires.0 c.loop-i.i no_stop c.loop-i-test.true in
    let range : nat_abs c.along.result ≤ coordinate_limit = rw c.along.ensures (along_range (axis_of c.args.axis) at) in
    (rw (coordinate c.args.cost (omega (arith, c.requires.1.most))) c.requires.1, rw (wide c.along.result (omega (arith, range))) range)

pub loop-i-preserved : goal.loop-i-preserved
loop-i-preserved c =
    let from = c.args.from.now in
    let at = stop_place_in_range c.requires.0 c.loop-i.i no_stop c.loop-i-test.true in
    let range : nat_abs c.along.result ≤ coordinate_limit = rw c.along.ensures (along_range (axis_of c.args.axis) at) in
    let scaled = λ (s : Stop). times (nat_abs (to_z w32 (of_z w32 c.args.cost))) (along (axis_of c.args.axis) (stop_of s).at) in
    let count = length-map from scaled in
    copied_start _ _ _ (pos 0) (omega (arith, count, c.requires.2)) c.loop-i.invariant (omega (arith, count, c.loop-i-test.true))
    (scaled_word c.along.result range c.scaled.ensures
    ∙ ap (times (nat_abs (to_z w32 (of_z w32 c.args.cost)))) c.along.ensures ∙ sym (map_at scaled from c.loop-i.i (pos 0) no_stop c.loop-i-test.true))

pub returns : goal.returns
returns c =
    let count = length-map c.args.from.now (λ (s : Stop). times (nat_abs c.args.cost) (along (axis_of c.args.axis) (stop_of s).at)) in
    copied_whole _ _ (omega (arith, count, c.requires.2)) (rw (coordinate c.args.cost (omega (arith, c.requires.1.most))) at c.loop-i.invariant)
    (omega (arith, count, c.loop-i-test.false))
