-- What `siting::answer_text` owes.
use mathlib.Core.Path.{subst, ◌∙◌}
use Rattle.siting.specs.Response.{Responded}
use Rattle.siting.proofs.EntryLaws.{report_in, text_report, refusal_in_text, text_refused}
use Rattle.siting.proofs.answer_text.Goals as goal

pub new-requires : goal.new-requires
new-requires c = report_in _ _ _ _ (subst (Responded _ _ _ _) c.in-Ok.is c.respond_alone.ensures)

pub new-requires-in-Err : goal.new-requires-in-Err
new-requires-in-Err c = refusal_in_text _ _ _ _ (subst (Responded _ _ _ _) c.in-Err.is c.respond_alone.ensures) _ _ c.write_refusal-length.ensures

pub returns-in-Ok-clause-whole : goal.returns-in-Ok-clause-whole
returns-in-Ok-clause-whole c = c.new.ensures ∙ text_report _ _ _ _ (subst (Responded _ _ _ _) c.in-Ok.is c.respond_alone.ensures)

pub returns-in-Err-clause-whole : goal.returns-in-Err-clause-whole
returns-in-Err-clause-whole c =
    c.new-in-Err.ensures ∙ text_refused _ _ _ _ (subst (Responded _ _ _ _) c.in-Err.is c.respond_alone.ensures) _ _ c.write_refusal-length.ensures
