-- What `cuts::can_cut` owes.
use Rattle.deck.specs.Values.{rect_of}
use Rattle.lines.specs.LineRecord.{grid_of}
use Rattle.cuts.proofs.CutRecordLaws.{edges_x, edges_y, back_low, back_high}
use Rattle.cuts.proofs.BetweenLaws.{cut_across, cut_deep}
use Rattle.cuts.proofs.can_cut.Goals as goal

pub returns-then-line_between : goal.returns-then-line_between
returns-then-line_between c =
    let x = edges_x {r = rect_of c.args.rectangle} c.requires.1 in
    cut_across (grid_of c.args.vertical.now c.args.horizontal.now) (rect_of c.args.rectangle) (back_low x) (back_high x) c.line_between.ensures
    c.if-line_between.true

pub returns-else-line_between : goal.returns-else-line_between
returns-else-line_between c =
    let x = edges_x {r = rect_of c.args.rectangle} c.requires.1 in
    let y = edges_y {r = rect_of c.args.rectangle} c.requires.1 in
    cut_deep (grid_of c.args.vertical.now c.args.horizontal.now) (rect_of c.args.rectangle) (back_low x) (back_high x) c.line_between.ensures
    c.if-line_between.false (back_low y) (back_high y) c.line_between-else-line_between.ensures
