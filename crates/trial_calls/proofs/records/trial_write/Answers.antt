-- What `trial_calls::records::trial_write` owes.
use Rattle.trial_calls.proofs.RecordLaws.{bytes_few, write_line}
use Rattle.trial_calls.proofs.records.trial_write.Goals as goal

pub count_figure-requires : goal.count_figure-requires
count_figure-requires c = bytes_few _ c.sized.ensures _ _ c.write.result c.write.ensures _ c.in-Ok.is

pub refused_figure-requires : goal.refused_figure-requires
refused_figure-requires c = write_line _ c.sized.ensures _ _ c.write.result c.write.ensures _ c.in-Err.is
