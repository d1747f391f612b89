-- What `write::Writer::put_decimal` owes.
use Rattle.write.proofs.WrittenLaws.{wrote_part}
use Rattle.write.proofs.Writer.put_decimal.Goals as goal

pub returns : goal.returns
returns g c = rw c.text_len.ensures.value (wrote_part c.args.self.now (g.T.Decimal.spelling c.args.number) c.requires c.put_text.ensures)
