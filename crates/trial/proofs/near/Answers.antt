-- What `trial::near` owes.
use mathlib.Core.Path.{sym, ◌∙◌}
use native.Mathlib.Omega.{arith}
use Rattle.trial.proofs.NumberLaws.{near_refused, near_number}
use Rattle.trial.proofs.OpenLaws.{ok_some, open_accepted, open_refused}
use Rattle.trial.proofs.FigureLaws.{few_stops, near_small, near_answer, near_none}
use Rattle.trial.proofs.near.Goals as goal

pub returns-in_err-o : goal.returns-in_err-o
returns-in_err-o c = rw c.from_residual.ensures (near_refused c.args.i _ (open_refused _ _ c.of_job.ensures _ _ c.in_err-o.was))

pub listed_near-requires : goal.listed_near-requires
listed_near-requires c = few_stops (open_accepted _ _ c.of_job.ensures _ c.in_ok-o.was)

pub returns-in_err-near : goal.returns-in_err-near
returns-in_err-near c =
    rw c.from_residual-in_err-near.ensures
    (near_none (open_accepted _ _ c.of_job.ensures _ c.in_ok-o.was) c.listed_near.ensures _ c.in_err-near.ensures.lookup.3
    ∙ near_number c.ranges.i _ c.try_from.ensures _ (ok_some _ _ (sym c.ok.ensures.value ∙ c.in_ok-i.was)) _)

pub overflow_cast-result : goal.overflow_cast-result
overflow_cast-result c =
    let (inside, at) = c.in_ok-near.ensures.lookup.3 in
    omega (arith, at 0, near_small (open_accepted _ _ c.of_job.ensures _ c.in_ok-o.was) c.listed_near.ensures _ inside)

pub returns : goal.returns
returns c =
    let (inside, at) = c.in_ok-near.ensures.lookup.3 in
    rw (at 0)
    (near_answer (open_accepted _ _ c.of_job.ensures _ c.in_ok-o.was) c.listed_near.ensures _ inside
    ∙ near_number c.ranges.i _ c.try_from.ensures _ (ok_some _ _ (sym c.ok.ensures.value ∙ c.in_ok-i.was)) _)
