-- What `trial_calls::records::trial_change` owes.
use Rattle.trial_calls.proofs.RecordLaws.{change_line}
use Rattle.trial_calls.proofs.records.trial_change.Goals as goal

pub refusal_figure-requires : goal.refusal_figure-requires
refusal_figure-requires c = change_line _ _ _ c.in-Err.ensures
