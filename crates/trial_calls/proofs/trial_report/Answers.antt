-- What `trial_calls::trial_report` owes.
use Rattle.trial_calls.proofs.CallLaws.{limits, report_line}
use Rattle.trial_calls.proofs.trial_report.Goals as goal

pub figure-requires : goal.figure-requires
figure-requires c = limits _ _ _ _ _ _ c.report.ensures _ c.in-Report.is

pub refused_figure-requires : goal.refused_figure-requires
refused_figure-requires c = report_line _ _ _ _ _ _ c.report.ensures _ c.in-Refused.is
