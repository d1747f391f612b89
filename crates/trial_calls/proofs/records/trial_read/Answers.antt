-- What `trial_calls::records::trial_read` owes.
use Rattle.trial_calls.proofs.RecordLaws.{rounds_few, read_line}
use Rattle.trial_calls.proofs.records.trial_read.Goals as goal

pub count_figure-requires : goal.count_figure-requires
count_figure-requires c = rounds_few _ _ c.read.ensures _ c.in-Ok.is

pub refused_figure-requires : goal.refused_figure-requires
refused_figure-requires c = read_line _ _ c.read.ensures _ c.in-Err.is
