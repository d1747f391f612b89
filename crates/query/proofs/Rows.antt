-- The rows beside the worked cases, by computation.
use mathlib.Core.Path.{refl}
use lib.Dec.{ltb→lt}
use Rattle.numbers.specs.Integer.{half_up}
use Rattle.query.specs.Lines.{gaps}
use Rattle.query.specs.Bound.{bound}
use Rattle.query.specs.CornerBound.{corner_bound}
use Rattle.query.specs.Problem.{problem}
use Rattle.query.specs.Search.{run}
use Rattle.query.specs.Figures.{figures}
use Rattle.query.specs.Estimate.{cut_limit, estimate}
use Rattle.query.specs.Space.{space}
use Rattle.query.specs.Exhaustive.{exhaustive}
use Rattle.query.specs.Promise3.{further_right}
use Rattle.query.specs.Rows.{Rows}

pub rows : Rows
unfolding half_up gaps bound corner_bound problem run figures cut_limit estimate space exhaustive
rows = record {
  half_3 = refl;
  half_minus_3 = refl;
  half_minus_4 = refl;
  gaps_a_across = refl;
  gaps_a_deep = refl;
  gaps_b_across = refl;
  gaps_c_across = refl;
  limit_reached = refl;
  high_falls = ltb→lt 16 18 tt;
  low_rises = record { lt = tt };
  further_right = further_right refl (record { lt = tt });
  estimate_a_0 = refl;
  estimate_a_2 = refl;
  estimate_a_3 = refl;
  estimate_a_10 = refl;
  all_live = refl;
  estimate_b = refl;
  estimate_c = refl;
  estimate_d_0 = refl;
  estimate_d_1 = refl;
  estimate_both_3 = refl;
  estimate_both = refl;
  estimate_level = refl;
  estimate_far = refl;
  estimate_plain = refl;
  estimate_x_cost = refl;
  estimate_y_cost = refl;
  equal = refl;
  level = refl;
  best_corner = refl;
  reach = refl;
  far = refl;
  beyond = refl;
  tie_1 = refl;
  middle_1 = refl;
  square_1 = refl;
  long_1 = refl;
  first = refl;
  order_2 = refl;
  closer_0 = refl;
  closer_1 = refl;
  closer = refl;
  axis_0 = refl;
  axis_1 = refl;
  axis_2 = refl;
  axis = refl;
  narrow_plain = refl;
  narrow_0 = refl;
  narrow_1 = refl;
  narrow = refl;
  narrow_deep = refl;
  side_1 = refl;
  both_1 = refl;
  both_2 = refl;
  both = refl;
  ends = refl;
  bound_out_of_reach = refl;
  bound_inside = refl;
  bound_point = refl;
  bound_segment = refl;
  bound_one_reached = refl;
  bound_equal = refl;
  bound_x_cost = refl;
  bound_y_cost = refl;
  bound_most = refl;
  corner_bound_part = refl;
  corner_bound_axis = refl;
  corner_bound_a = refl;
  corner_bound_closer = refl;
  corner_bound_half = refl;
  corner_bound_d = refl;
  corner_bound_ends = refl;
  space_a_0 = refl;
  space_a_1 = refl;
  space_a_2 = refl;
  space_a_3 = refl;
  space_d_0 = refl;
  space_order_2 = refl;
  exhaustive_a = refl;
  exhaustive_b = refl;
  exhaustive_c = refl;
  exhaustive_d = refl;
  exhaustive_equal = refl;
  exhaustive_narrow = refl;
  exhaustive_axis = refl;
}
