-- What `search::run::add` owes.
use Rattle.search.proofs.LiveLaws.{added_none, added_one}
use Rattle.search.proofs.run.add.Goals as goal

pub returns-then-is_live : goal.returns-then-is_live
returns-then-is_live c = added_one _ _ c.args.cell _ _ c.is_live.ensures c.if-is_live.true _ c.insert.ensures

pub returns-else-is_live : goal.returns-else-is_live
returns-else-is_live c = added_none _ _ c.args.cell _ _ c.is_live.ensures c.if-is_live.false
