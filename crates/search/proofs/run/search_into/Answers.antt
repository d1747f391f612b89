-- What `search::run::search_into` owes.
use Rattle.search.proofs.DeckRun.{steady}
use Rattle.search.proofs.RunLaws.{answerable, room, searched}
use Rattle.search.proofs.run.search_into.Goals as goal

pub write_out-requires : goal.write_out-requires
write_out-requires c = room _ _ _ _ _ c.run_of-state.ensures _ c.requires.3

pub answer-requires : goal.answer-requires
answer-requires c = answerable _ _ _ _ _ c.run_of-state.ensures (steady c.requires.0)

pub returns : goal.returns
returns c = searched _ _ _ _ _ c.run_of-state.ensures _ _ c.write_out.ensures _ c.answer.ensures
