-- What `job_file::area_len` owes.
use native.Mathlib.Omega.{arith}
use Rattle.deck.specs.Values.{rect_of}
use Rattle.job_file.proofs.TextLaws.{length_area}
use Rattle.job_file.proofs.area_len.Goals as goal

pub returns-clause-value : goal.returns-clause-value
returns-clause-value c = omega (
  arith,
  length_area (rect_of c.args.r),
  rw c.low.ensures at c.place_len.ensures.value,
  rw c.high.ensures at c.place_len-2.ensures.value,
)
