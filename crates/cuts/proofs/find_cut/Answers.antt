-- What `cuts::find_cut` owes.
use native.Mathlib.Omega.{arith}
use mathlib.Core.Path.{◌∙◌}
use mathlib.Core.Bool.{not}
use lib.Dec.{T}
use lib.IntN.{◌-ℤ◌}
use lib.Signed.{le_z, ◌≤ℤ◌}
use Rattle.numbers.proofs.Integer.{order}
use Rattle.numbers.proofs.Words.{is_true, is_false}
use Rattle.deck.specs.Values.{rect_of}
use Rattle.lines.specs.LineRecord.{grid_of}
use Rattle.cuts.specs.CutRecord.{Edges}
use Rattle.cuts.proofs.CutRecordLaws.{edges_x, edges_y, back_low, back_high, side_is, x_first, y_first}
use Rattle.cuts.proofs.find_cut.Goals as goal

pub returns-then-length : goal.returns-then-length
returns-then-length c =
    let r = c.args.rectangle in
    let x : Edges r.xlo r.xhi = edges_x {r = rect_of r} c.requires.1 in
    let y : Edges r.ylo r.yhi = edges_y {r = rect_of r} c.requires.1 in
    let t : (r.yhi -ℤ r.ylo) ≤ℤ (r.xhi -ℤ r.xlo) =
    record { le = rw (side_is y c.length.type_inv c.length.ensures, side_is x c.length-2.type_inv c.length-2.ensures) at (is_true _ c.if-length.true) } in
    rw (back_low x, back_high x, back_low y, back_high y) at c.first_of.ensures
    ∙ x_first (grid_of c.args.vertical.now c.args.horizontal.now) (rect_of r) t

pub returns-else-length : goal.returns-else-length
returns-else-length c =
    let r = c.args.rectangle in
    let x : Edges r.xlo r.xhi = edges_x {r = rect_of r} c.requires.1 in
    let y : Edges r.ylo r.yhi = edges_y {r = rect_of r} c.requires.1 in
    let t : T (not (le_z (r.yhi -ℤ r.ylo) (r.xhi -ℤ r.xlo))) =
    rw (side_is y c.length.type_inv c.length.ensures, side_is x c.length-2.type_inv c.length-2.ensures) at (is_false _ c.if-length.false) in
    rw (back_low x, back_high x, back_low y, back_high y) at c.first_of-else-length.ensures
    ∙ y_first (grid_of c.args.vertical.now c.args.horizontal.now) (rect_of r) (omega (arith, order, t))
