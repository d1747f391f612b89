-- What `siting::siting_report` owes.
use mathlib.Core.Path.{subst}
use Rattle.siting.specs.Response.{Responded}
use Rattle.siting.proofs.EntryLaws.{entry_report, entry_refused}
use Rattle.siting.proofs.siting_report.Goals as goal

pub returns-in-Ok : goal.returns-in-Ok
returns-in-Ok c = entry_report _ _ _ _ _ (subst (Responded _ _ _ _) c.in-Ok.is c.respond_alone.ensures)

pub returns-in-Err : goal.returns-in-Err
returns-in-Err c = entry_refused _ _ _ _ _ (subst (Responded _ _ _ _) c.in-Err.is c.respond_alone.ensures) _ c.number_of.ensures
