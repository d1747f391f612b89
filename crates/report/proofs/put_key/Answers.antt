-- What `report::put_key` owes.
use Rattle.write.proofs.WrittenLaws.{wrote_both}
use Rattle.report.proofs.put_key.Goals as goal

pub returns : goal.returns
returns g c = wrote_both c.put.ensures c.put_decimal.ensures
