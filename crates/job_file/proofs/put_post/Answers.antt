-- What `job_file::put_post` owes.
use Rattle.text.specs.Ascii.{bytes}
use Rattle.deck.specs.Values.{place_of}
use Rattle.job_file.proofs.Parts.{all_due, part_room, part_written, all_written}
use Rattle.job_file.proofs.TextLaws.{post_joined}
use Rattle.job_file.proofs.put_post.Goals as goal

pub put-requires : goal.put-requires
unfolding bytes
put-requires c = part_room (all_due c.args.w.now _ c.requires (post_joined (place_of c.args.p)))

pub put_place-requires : goal.put_place-requires
unfolding bytes
put_place-requires c = part_room (part_written (all_due c.args.w.now _ c.requires (post_joined (place_of c.args.p))) c.put.ensures)

pub returns : goal.returns
unfolding bytes
returns c = all_written (part_written (part_written (all_due c.args.w.now _ c.requires (post_joined (place_of c.args.p))) c.put.ensures) c.put_place.ensures)
