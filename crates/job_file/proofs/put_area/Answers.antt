-- What `job_file::put_area` owes.
use Rattle.text.specs.Ascii.{bytes}
use Rattle.deck.specs.Values.{rect_of}
use Rattle.job_file.proofs.Parts.{all_due, part_room, part_written, all_written}
use Rattle.job_file.proofs.TextLaws.{area_joined}
use Rattle.job_file.proofs.put_area.Goals as goal

pub put-requires : goal.put-requires
unfolding bytes
put-requires c = part_room (all_due c.args.w.now _ c.requires (area_joined (rect_of c.args.r)))

pub put_place-requires : goal.put_place-requires
unfolding bytes
put_place-requires c = rw c.low.ensures (part_room (part_written (all_due c.args.w.now _ c.requires (area_joined (rect_of c.args.r))) c.put.ensures))

pub put_place-requires-2 : goal.put_place-requires-2
unfolding bytes
put_place-requires-2 c =
    let low = rw c.low.ensures at c.put_place.ensures in
    rw c.high.ensures (part_room (part_written (part_written (all_due c.args.w.now _ c.requires (area_joined (rect_of c.args.r))) c.put.ensures) low))

pub returns : goal.returns
unfolding bytes
returns c =
    let low = rw c.low.ensures at c.put_place.ensures in
    let high = rw c.high.ensures at c.put_place-2.ensures in
    all_written (part_written (part_written (part_written (all_due c.args.w.now _ c.requires (area_joined (rect_of c.args.r))) c.put.ensures) low) high)
