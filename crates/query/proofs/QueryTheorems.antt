-- All theorems of this crate, under one name.
use Rattle.numbers.proofs.NumberRows.{number_rows}
use Rattle.query.specs.QueryTheorems.{QueryTheorems}
use Rattle.query.proofs.Marked.{marked}
use Rattle.query.proofs.Rows.{rows}
use Rattle.query.proofs.BoundLaws.{bound_law}
use Rattle.query.proofs.CornerBoundLaws.{half_law}
use Rattle.query.proofs.NearLaws.{near_law, travel_to_law}
use Rattle.query.proofs.LineLaws.{lines_law, gaps_law}
use Rattle.query.proofs.CutLaws.{cut_law}
use Rattle.query.proofs.Crossing.{crossing}
use Rattle.query.proofs.Counts.{round_law}
use Rattle.query.proofs.SearchLaws.{taken_law, partition_law}
use Rattle.query.proofs.Promise3.{promise_3}
use Rattle.query.proofs.EstimateLaws.{estimate_law}
use Rattle.query.proofs.SpaceLaws.{space_law}
use Rattle.query.proofs.ExhaustiveLaws.{exhaustive_law}
use Rattle.query.proofs.Ranges.{figure_limits}
use Rattle.query.proofs.FigureRanges.{run_in_range}

pub query_theorems : QueryTheorems
query_theorems = record {
  marked = marked;
  rows = rows;
  number_rows = number_rows;
  promise_3 = promise_3;
  exhaustive = exhaustive_law;
  half = half_law;
  near = near_law;
  travel_to_law = travel_to_law;
  bound = bound_law;
  lines = lines_law;
  gaps = gaps_law;
  crossing = crossing;
  cut = cut_law;
  round = round_law;
  taken = taken_law;
  partition = partition_law;
  estimate = estimate_law;
  space = space_law;
  figure_limits = figure_limits;
  run_in_range = run_in_range;
}
