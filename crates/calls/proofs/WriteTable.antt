-- The rows of specs/WriteTable.antt, by computation.
use mathlib.Core.Path.{refl}
use Rattle.calls.specs.ReadCall.{read_call}
use Rattle.calls.specs.WriteCall.{write_call}
use Rattle.calls.specs.WriteTable.{WriteTable}

pub write_table : WriteTable
unfolding write_call read_call
write_table = record {
  case_a_exact = refl;
  case_a_more = refl;
  case_a_short = refl;
  case_a_read = refl;
  refused_read = refl;
  each_place = refl;
  each_place_read = refl;
  behind_lists = refl;
  stop_x = refl;
  stop_x_long = refl;
  stop_y_long = refl;
  visits = refl;
  area_long = refl;
  form_first = refl;
  posts_beyond = refl;
  stops_beyond = refl;
  second_post = refl;
  first_post = refl;
  first_stop = refl;
  rounds_beyond = refl;
  empty_area_law = refl;
  no_posts = refl;
  no_stops = refl;
  four_before_five = refl;
  three_before_four = refl;
  others_before_eight = refl;
  large_file = refl;
  large_file_length = refl;
  longest_job_law = refl;
  longest = refl;
  axis_written = refl;
  spelled_out = refl;
  own_bytes = refl;
  own_bytes_short = refl;
  axis_beyond = refl;
  axis_ten_digits = refl;
  axis_moves = refl;
  last_line = refl;
}
