-- What `trial_calls::estimates::trial_estimate` owes.
use Rattle.trial_calls.proofs.EstimateFigures.{estimate_small, estimate_line}
use Rattle.trial_calls.proofs.estimates.trial_estimate.Goals as goal

pub needs_figure-requires : goal.needs_figure-requires
needs_figure-requires c = estimate_small _ _ c.estimate.ensures _ c.in-Ok.is

pub refused_figure-requires : goal.refused_figure-requires
refused_figure-requires c = estimate_line _ _ c.estimate.ensures _ c.in-Err.is
