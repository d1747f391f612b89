-- What `write::Writer::put` owes.
use Rattle.write.proofs.WrittenLaws.{wrote_part}
use Rattle.write.proofs.Writer.put.Goals as goal

pub returns : goal.returns
returns c = wrote_part c.args.self.now c.args.bytes.now c.requires c.copy_from_slice.ensures.after
