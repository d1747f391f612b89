-- The rows of specs/ChangeTable.antt, by computation.
use mathlib.Core.Path.{refl}
use Rattle.change.specs.ChangedRecord.{record_after}
use Rattle.calls.specs.ReadCall.{read_call}
use Rattle.calls.specs.ChangeCall.{change_call}
use Rattle.calls.specs.ChangeTable.{ChangeTable}

pub change_table : ChangeTable
unfolding read_call change_call record_after
change_table = record {
  before_changes = refl;
  post_added = refl;
  stop_added = refl;
  stop_removed = refl;
  stop_removed_twice = refl;
  post_removed = refl;
  equal_posts = refl;
  in_order = refl;
  answers_in_order = refl;
  not_held = refl;
  only_post = refl;
  only_stop = refl;
  posts_full = refl;
  stops_full = refl;
  range_ends = refl;
  beyond_ranges = refl;
  range_first = refl;
  not_saveable = refl;
  near_beyond = refl;
  near_stored = refl;
  found_again = refl;
  found_again_second = refl;
  others_stay = refl;
  behind_added = refl;
  behind_removed = refl;
}
