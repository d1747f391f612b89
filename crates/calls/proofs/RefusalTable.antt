-- The rows of specs/RefusalTable.antt, by computation.
use mathlib.Core.Path.{refl}
use mathlib.Core.List.{flat_map}
use Rattle.text.specs.Ascii.{bytes}
use Rattle.calls.specs.Call.{report_call}
use Rattle.calls.specs.RefusalTable.{RefusalTable}

pub refusal_table : RefusalTable
unfolding report_call bytes flat_map
refusal_table = record {
  case_a_law = refl;
  too_long = refl;
  longest = refl;
  empty_file = refl;
  byte_13 = refl;
  no_form = refl;
  missing = refl;
  ends_early = refl;
  too_much = refl;
  no_end = refl;
  no_end_beyond = refl;
  area_ends = refl;
  area_below = refl;
  area_above = refl;
  post_ends = refl;
  post_beyond = refl;
  stop_ends = refl;
  stop_beyond = refl;
  nine_digits_lem = refl;
  visits_beyond = refl;
  posts_beyond = refl;
  posts_64 = refl;
  posts_65 = refl;
  stops_beyond = refl;
  stops_512 = refl;
  stops_513 = refl;
  rounds_ends = refl;
  rounds_none = refl;
  rounds_beyond = refl;
  form_before_range = refl;
  earlier_line = refl;
  empty_area_law = refl;
  no_posts = refl;
  no_stops = refl;
  four_before_five = refl;
  five_before_six = refl;
  space_19 = refl;
  space_20 = refl;
  space_9 = refl;
  space_10 = refl;
  space_4 = refl;
  space_5 = refl;
  output_127 = refl;
  seven_before_eight = refl;
  six_before_seven = refl;
}
