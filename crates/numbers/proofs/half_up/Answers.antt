-- What `numbers::half_up` owes.
use mir.Syntax.{w64}
use Rattle.numbers.proofs.Words.{half_fits, word_half_above, word_half_below, result_is}
use Rattle.numbers.proofs.half_up.Goals as goal

pub returns-then-t-gt0 : goal.returns-then-t-gt0
returns-then-t-gt0 c = result_is w64 _ _ (word_half_above w64 _ c.ranges.t c.if-t-gt0.true) (half_fits w64 _ c.ranges.t)

pub returns-else-t-gt0 : goal.returns-else-t-gt0
returns-else-t-gt0 c = result_is w64 _ _ (word_half_below w64 _ c.ranges.t c.if-t-gt0.false) (half_fits w64 _ c.ranges.t)
