-- What `job_file::file_len` owes.
use native.Mathlib.Omega.{arith}
use Rattle.job_file.proofs.FileLaws.{length_file}
use Rattle.job_file.proofs.file_len.Goals as goal

pub returns : goal.returns
returns c = omega (
  arith,
  length_file c.args.deck.now c.args.rounds,
  c.area_len-area_line.ensures.value,
  c.axis_len-axis_line.ensures.value,
  c.text_len.ensures.value,
  rw c.listed_posts.ensures at c.posts_len-posts.ensures.value,
  c.text_len-2.ensures.value,
  rw c.listed_stops.ensures at c.stops_len-stops.ensures.value,
  c.text_len-3.ensures.value,
)
