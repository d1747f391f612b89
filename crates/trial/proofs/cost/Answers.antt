-- What `trial::cost` owes.
use Rattle.numbers.proofs.Words.{is_true}
use mathlib.Core.Path.{◌≡◌, sym, ◌∙◌}
use mathlib.Core.Bool.{true}
use Rattle.trial.specs.Ranges.{place_in_range}
use Rattle.deck.specs.Values.{place_of}
use Rattle.trial.proofs.OpenLaws.{open_accepted, open_refused}
use Rattle.trial.proofs.RectLaws.{place_range}
use Rattle.trial.proofs.FigureLaws.{cost_answer}
use Rattle.trial.proofs.cost.Goals as goal

pub returns-in_err-o : goal.returns-in_err-o
returns-in_err-o c = rw c.from_residual.ensures (open_refused _ _ c.of_job.ensures _ _ c.in_err-o.was)

pub cost-requires : goal.cost-requires
cost-requires c =
    let on : place_in_range (place_of c.args.at) ≡ true = sym c.place_in_range.ensures ∙ c.if-not-place_in_range.false in
    (place_range _).0 (is_true _ on)

pub returns : goal.returns
returns c =
    let on : place_in_range (place_of c.args.at) ≡ true = sym c.place_in_range.ensures ∙ c.if-not-place_in_range.false in
    cost_answer (open_accepted _ _ c.of_job.ensures _ c.in_ok-o.was) _ on c.cost.ensures
