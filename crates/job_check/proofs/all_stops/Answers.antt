-- What `job_check::all_stops` owes.
use mathlib.Core.Path.{ap, ◌∙◌}
use native.Mathlib.Omega.{arith}
use lib.ListN.{length, length-take}
use Rattle.deck.specs.DeckOf.{deck_of}
use Rattle.job_check.specs.LineFaults.{checked_as}
use Rattle.job_check.proofs.ShortLaws.{count_most, passed_on}
use Rattle.job_check.proofs.FirstFault.{line_then, line_alone}
use Rattle.job_check.proofs.all_stops.Goals as goal

pub listed_stops-requires : goal.listed_stops-requires
listed_stops-requires c = count_most _ _ _ c.count_line.ensures (ap checked_as c.in_ok-count_line.was)

pub stop_lines-requires : goal.stop_lines-requires
stop_lines-requires c =
    let few = count_most _ _ _ c.count_line.ensures (ap checked_as c.in_ok-count_line.was) in
    (omega (arith, few, length-take c.args.deck.now.stop_count c.args.deck.now.stops, ap length c.listed_stops.ensures), omega (arith, c.requires))

pub returns : goal.returns
unfolding deck_of
returns c =
    line_then _ _ _ c.count_line.ensures (ap checked_as c.in_ok-count_line.was) (rw c.listed_stops.ensures at c.stop_lines.ensures)

pub returns-in_err-count_line : goal.returns-in_err-count_line
returns-in_err-count_line c =
    passed_on _ c.from_residual.ensures.1 ∙ line_alone _ _ _ c.count_line.ensures (ap checked_as c.in_err-count_line.was)
