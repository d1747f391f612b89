-- What `siting::exhaustive` owes.
use mathlib.Core.Path.{sym, ap, ◌∙◌}
use Rattle.query.specs.Exhaustive as Query
use Rattle.job.proofs.PartLaws.{handed}
use Rattle.prepare.specs.ProblemRecord.{given_by}
use Rattle.prepare.proofs.JobProblem.{given_refused}
use Rattle.priced_place.proofs.DeckProblem.{prepared_problem}
use Rattle.siting.proofs.RespondLaws.{spells, prepared, before_figure_lem}
use Rattle.siting.proofs.ExhaustiveLaws.{exhaustive_found, exhaustive_refused}
use Rattle.siting.proofs.exhaustive.Goals as goal

pub returns-in_err-prepared : goal.returns-in_err-prepared
returns-in_err-prepared c =
    let refused = given_refused _ _ (ap given_by (sym c.in_err-prepared.was) ∙ c.of_job.ensures) in
    rw (handed _ c.from_residual.ensures.1) (exhaustive_refused _ _ refused)

pub cheapest-requires : goal.cheapest-requires
cheapest-requires c =
    let given = ap given_by (sym c.in_ok-prepared.was) ∙ c.of_job.ensures in
    (prepared _ c.in_ok-prepared.prepared given, before_figure_lem _ c.in_ok-prepared.prepared given)

pub returns : goal.returns
returns c =
    let given = ap given_by (sym c.in_ok-prepared.was) ∙ c.of_job.ensures in
    let same = prepared_problem (prepared _ c.in_ok-prepared.prepared given) in
    exhaustive_found _ (spells _ c.in_ok-prepared.prepared given) _ (c.cheapest.ensures ∙ ap Query.exhaustive same)
