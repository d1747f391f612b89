-- What `job_file::put_stop` owes.
use Rattle.text.specs.Ascii.{bytes, newline}
use Rattle.deck.specs.Values.{stop_of}
use Rattle.job_file.proofs.Parts.{all_due, part_room, part_written, all_written}
use Rattle.job_file.proofs.TextLaws.{stop_joined, nat_written, nat_room}
use Rattle.job_file.proofs.put_stop.Goals as goal

pub put-requires : goal.put-requires
unfolding bytes
put-requires c = part_room (all_due c.args.w.now _ c.requires (stop_joined (stop_of c.args.s)))

pub put_place-requires : goal.put_place-requires
unfolding bytes
put_place-requires c = part_room (part_written (all_due c.args.w.now _ c.requires (stop_joined (stop_of c.args.s))) c.put.ensures)

pub put_number-requires : goal.put_number-requires
unfolding bytes
put_number-requires c =
    let number = part_written (part_written (all_due c.args.w.now _ c.requires (stop_joined (stop_of c.args.s))) c.put.ensures) c.put_place.ensures in
    nat_room c.args.s.visits newline number

pub returns : goal.returns
unfolding bytes
returns c =
    let number = part_written (part_written (all_due c.args.w.now _ c.requires (stop_joined (stop_of c.args.s))) c.put.ensures) c.put_place.ensures in
    all_written (part_written number (nat_written c.args.s.visits newline c.put_number.ensures))
