-- What `exhaustive::line_numbers::height` owes.
use Rattle.exhaustive.proofs.Heights.{height_is}
use Rattle.exhaustive.proofs.line_numbers.height.Goals as goal

pub returns : goal.returns
returns c = height_is c.args.y c.requires
