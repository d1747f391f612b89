-- The figures (RULES "Figures") that a report of the code carries.
use Rattle.query.specs.Figures as Query
use Rattle.query.specs.Figures.{Figures}
use Rattle.report.specs.declared.Report.{Report}
use Rattle.report.specs.declared.State.{State}
use Rattle.report.specs.declared.State.TheVariants.{Done, Stopped}

abbrev pub report_state : State → Query.State
report_state Done = Query.done
report_state Stopped = Query.stopped

abbrev pub report_figures : Report → Figures
report_figures r = record {
  state = report_state r.state;
  at = record { x = r.x; y = r.y };
  high = r.high;
  low = r.low;
  before = r.before;
  rounds = r.rounds;
}
