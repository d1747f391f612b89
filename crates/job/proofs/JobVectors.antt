-- The rows of specs/JobVectors.antt, by computation.
use mathlib.Core.Path.{refl}
use Rattle.text.specs.Ascii.{bytes}
use Rattle.job.specs.Format.{read_job}
use Rattle.job.specs.JobVectors.{JobVectors}

pub vectors : JobVectors
unfolding read_job bytes
vectors = record {
  case_a_law = refl;
  case_b_law = refl;
  rounds_1000 = refl;
  axis_2_3 = refl;
  axis_1_1 = refl;
  axis_missing = refl;
  missing_2_1 = refl;
  carried_2_3 = refl;
  axis_twice = refl;
  line_moved = refl;
  line_kept = refl;
}
