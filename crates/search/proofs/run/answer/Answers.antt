-- What `search::run::answer` owes.
use Rattle.search.proofs.RunLaws.{answer_is}
use Rattle.search.proofs.run.answer.Goals as goal

pub returns : goal.returns
returns c = answer_is c.args.live.now _ c.requires _ _ c.is_empty.ensures c.low_of.type_inv c.low_of.ensures
