-- What `job_file::put_number` owes.
use Rattle.write.proofs.WrittenLaws.{wrote_both}
use Rattle.job_file.proofs.put_number.Goals as goal

pub returns : goal.returns
returns g c = wrote_both c.put_decimal.ensures c.put_byte.ensures
