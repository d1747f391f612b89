-- What `write::Writer::put_byte` owes.
use Rattle.write.proofs.WrittenLaws.{wrote_store}
use Rattle.write.proofs.Writer.put_byte.Goals as goal

pub returns : goal.returns
returns c = wrote_store c.args.self.now c.args.byte c.requires
