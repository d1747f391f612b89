-- What `trial_calls::trial_exhaustive` owes.
use Rattle.trial_calls.proofs.CallLaws.{spot_limits, exhaustive_line}
use Rattle.trial_calls.proofs.trial_exhaustive.Goals as goal

pub spot_figure-requires : goal.spot_figure-requires
spot_figure-requires c = spot_limits _ _ c.exhaustive.ensures _ c.in-Ok.is

pub refused_figure-requires : goal.refused_figure-requires
refused_figure-requires c = exhaustive_line _ _ c.exhaustive.ensures _ c.in-Err.is
