-- What `job_file::put_axis` owes.
use mathlib.Core.Path.{◌≡◌, sym, ◌∙◌}
use mathlib.Core.Bool.{Bool, true}
use lib.ListN.{length}
use Rattle.text.specs.Ascii.{bytes, comma, newline}
use Rattle.write.specs.declared.Writer.{Writer}
use Rattle.write.specs.Written.{HasRoom}
use Rattle.write.proofs.WrittenLaws.{wrote_nothing}
use Rattle.query.specs.Deck.{AxisCosts}
use Rattle.deck.specs.Values.{held_axis}
use Rattle.job.specs.File.{writes_axis}
use Rattle.job_file.specs.Texts.{axis_text}
use Rattle.job_file.proofs.Parts.{Writing, all_due, part_room, part_written, all_written}
use Rattle.job_file.proofs.TextLaws.{axis_parts, axis_joined, axis_left_out, nat_written, nat_room}
use Rattle.job_file.proofs.put_axis.Goals as goal

-- where there is a line, its parts are due
line_due : (c : AxisCosts) (w : Writer) {has_line : Bool} → HasRoom w (length (axis_text c)) → has_line ≡ writes_axis c → has_line ≡ true →
    Writing w (axis_text c) (axis_parts c) w
line_due c w room e on = all_due w _ room (axis_joined c (sym e ∙ on))

pub put-requires : goal.put-requires
unfolding bytes
put-requires c = part_room (line_due (held_axis c.args.c) c.args.w.now c.requires c.writes_axis-has_line.ensures c.if-has_line.true)

pub put_number-requires : goal.put_number-requires
unfolding bytes
put_number-requires c =
    nat_room c.args.c.a comma (part_written
    (line_due (held_axis c.args.c) c.args.w.now c.requires c.writes_axis-has_line.ensures c.if-has_line.true) c.put.ensures)

pub put_number-requires-then-has_line : goal.put_number-requires-then-has_line
unfolding bytes
put_number-requires-then-has_line c =
    let numbers = part_written (line_due (held_axis c.args.c) c.args.w.now c.requires c.writes_axis-has_line.ensures c.if-has_line.true) c.put.ensures in
    nat_room c.args.c.b newline (part_written numbers (nat_written c.args.c.a comma c.put_number.ensures))

pub returns-then-has_line : goal.returns-then-has_line
unfolding bytes
returns-then-has_line c =
    let numbers = part_written (line_due (held_axis c.args.c) c.args.w.now c.requires c.writes_axis-has_line.ensures c.if-has_line.true) c.put.ensures in
    let last = part_written numbers (nat_written c.args.c.a comma c.put_number.ensures) in
    all_written (part_written last (nat_written c.args.c.b newline c.put_number-then-has_line.ensures))

pub returns-else-has_line : goal.returns-else-has_line
returns-else-has_line c =
    rw (axis_left_out (held_axis c.args.c) (sym c.writes_axis-has_line.ensures ∙ c.if-has_line.false)) (wrote_nothing c.args.w.now)
