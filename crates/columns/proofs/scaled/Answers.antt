-- What `columns::scaled` owes.
use Rattle.columns.proofs.ScaleLaws.{product_scaled}
use Rattle.columns.proofs.scaled.Goals as goal

pub returns : goal.returns
returns c = product_scaled c.args.cost c.args.coordinate c.requires.0 c.requires.1
