-- What `estimate::of_given` owes.
use Rattle.estimate.proofs.of_given.Goals as goal

pub returns : goal.returns
returns c = rw (c.len.ensures, c.len-2.ensures) at c.of_lines.ensures
