-- What `siting::report_found` owes.
use Rattle.siting.proofs.RespondLaws.{prepared, found_figures, report_limits}
use Rattle.siting.proofs.report_found.Goals as goal

pub write_report-bytes-requires-clause-figures_in_range : goal.write_report-bytes-requires-clause-figures_in_range
write_report-bytes-requires-clause-figures_in_range c =
    let of = c.requires.0 in
    report_limits of.job c.args.given.now of.given _
    (found_figures (prepared of.job c.args.given.now of.given) _ _ c.requires.1 _ _ c.state_of-state.ensures)

pub returns : goal.returns
returns c =
    let of = c.requires.0 in
    record {
      figures_are = found_figures (prepared of.job c.args.given.now of.given) _ _ c.requires.1 _ _ c.state_of-state.ensures;
      text = c.write_report-bytes.ensures;
    }
