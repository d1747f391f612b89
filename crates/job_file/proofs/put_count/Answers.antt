-- What `job_file::put_count` owes.
use Rattle.text.specs.Ascii.{newline}
use Rattle.job_file.proofs.Parts.{all_due, part_room, part_written, all_written}
use Rattle.job_file.proofs.TextLaws.{count_joined, nat_written, nat_room}
use Rattle.job_file.proofs.put_count.Goals as goal

pub put-requires : goal.put-requires
put-requires c = part_room (all_due c.args.w.now _ c.requires (count_joined c.args.key.now c.args.n))

pub put_number-requires : goal.put_number-requires
put_number-requires c =
    nat_room c.args.n newline (part_written (all_due c.args.w.now _ c.requires (count_joined c.args.key.now c.args.n)) c.put.ensures)

pub returns : goal.returns
returns c =
    let number = part_written (all_due c.args.w.now _ c.requires (count_joined c.args.key.now c.args.n)) c.put.ensures in
    all_written (part_written number (nat_written c.args.n newline c.put_number.ensures))
