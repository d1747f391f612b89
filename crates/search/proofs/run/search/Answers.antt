-- What `search::run::search` owes.
use Rattle.search.proofs.DeckRun.{steady}
use Rattle.search.proofs.RunLaws.{answerable, found_is}
use Rattle.search.proofs.run.search.Goals as goal

pub answer-requires : goal.answer-requires
answer-requires c = answerable _ _ _ _ _ c.run_of-state.ensures (steady c.requires.0)

pub returns : goal.returns
returns c = found_is _ _ _ _ _ c.run_of-state.ensures _ c.answer.ensures
