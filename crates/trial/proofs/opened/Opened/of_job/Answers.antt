-- What `trial::opened::Opened::of_job` owes.
use mathlib.Core.Path.{sym, ap, ◌∙◌}
use Rattle.std.specs.Option.{option_map}
use Rattle.trial.specs.Opened.{parts_of}
use Rattle.trial.proofs.OpenLaws.{ok_none, ok_some, unprepared, read_too, opened, opened_sound, opened_problem}
use Rattle.trial.proofs.opened.Opened.of_job.Goals as goal

pub returns-in_err-given : goal.returns-in_err-given
returns-in_err-given c =
    let (why, refused) = ok_none _ (sym c.ok.ensures.value ∙ c.in_err-given.was) in
    ap (option_map parts_of) c.from_residual.ensures ∙ unprepared _ _ c.of_job.ensures why refused

pub returns-in_err-job : goal.returns-in_err-job
returns-in_err-job c =
    let p = ok_some _ _ (sym c.ok.ensures.value ∙ c.in_ok-given.was) in
    let (why, refused) = ok_none _ (sym c.ok-2.ensures.value ∙ c.in_err-job.was) in
    absurd (read_too _ _ c.of_job.ensures _ p _ c.read.ensures why refused)

pub invariant_of-result : goal.invariant_of-result
invariant_of-result c =
    let p = ok_some _ _ (sym c.ok.ensures.value ∙ c.in_ok-given.was) in
    let j = ok_some _ _ (sym c.ok-2.ensures.value ∙ c.in_ok-job.was) in
    record {
      sound = opened_sound _ _ c.of_job.ensures _ p _ c.read.ensures _ j;
      problem_is = opened_problem _ _ c.of_job.ensures _ p _ c.read.ensures _ j;
    }

pub returns : goal.returns
returns c =
    let p = ok_some _ _ (sym c.ok.ensures.value ∙ c.in_ok-given.was) in
    let j = ok_some _ _ (sym c.ok-2.ensures.value ∙ c.in_ok-job.was) in
    opened _ _ c.of_job.ensures _ p _ c.read.ensures _ j
