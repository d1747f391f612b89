-- The calls `report` and `exhaustive` as the tests see them: what their answers carry, as numbers.
use Prim.Native.Nat.{ℕ, ◌+◌, ◌-◌, ◌≤◌, ◌<◌}
use mathlib.Core.Path.{◌≡◌, refl, sym, ap, subst, ◌∙◌}
use mathlib.Core.List.{List}
use native.Mathlib.Omega.{arith}
use lib.IntN.{ℤ}
use lib.ListN.{length-replicate, get_or, replicate}
use Rattle.std.proofs.lemmas.List.{get_or-replicate, get_or_append_left, get_or-append_right}
use Rattle.query.specs.Place.{In}
use Rattle.query.specs.Order.{Priced}
use Rattle.query.specs.Problem.{problem}
use Rattle.query.specs.Exhaustive as Query
use Rattle.query.proofs.Ranges.{figure_limits}
use Rattle.query.proofs.FigureRanges.{point_in_range}
use Rattle.refusal.specs.Refusal.{number_of, line_of}
use Rattle.job.specs.Format.{Result, refused, accepted, size_limit, read_job}
use Rattle.refusal.specs.declared.Refusal.{Refusal}
use Rattle.job.proofs.Meaning.{refused_job, allowed_in_range}
use Rattle.job.proofs.RefusalLaws.{condition_line}
use Rattle.report.specs.Report.{report_figures}
use Rattle.query.specs.Range.{PlaceInRange, FiguresInRange, cost_limit, rounds_limit}
use Rattle.report.specs.declared.Report as Held
use Rattle.priced_place.specs.ObjectProblem.{priced_of}
use Rattle.priced_place.specs.declared.PricedPlace.{PricedPlace}
use Rattle.std.specs.Prelude.{Ok, Err}
use Rattle.std.specs.Prelude as Std
use Rattle.calls.specs.declared.Answer.{Answer}
use Rattle.calls.specs.declared.Answer.TheVariants.{Report, Refused}
use Rattle.calls.specs.Answers.{gives, report_answer, cheapest_answer}
use Rattle.calls.specs.Call.{Left, report_call}
use Rattle.calls.specs.CheapestCall.{exhaustive_call}
use Rattle.calls.specs.Promises.{Applies, in_reading, small_space, short_output}
use Rattle.calls.proofs.AnswerLaws.{same_given, not_refused}
use Rattle.calls.proofs.Promises.{job_limits, read_exactly, accepted_one, figures_are, promises}
use Rattle.calls.proofs.ExhaustiveCall.{exhaustive_call_law}
use Rattle.trial.specs.Trial.{least, refusal_numbers}
use Rattle.trial_calls.specs.Calls.{refused_numbers}

-- ---- the line of a refusal
line_few : (why : Refusal) (job : List ℕ) (cells : List ℤ) (out : List ℕ) → Applies job cells out why → line_of why ≤ size_limit + 1
line_few why job cells out (in_reading c) = condition_line job why c
line_few _ job cells out (small_space j e h) = omega arith
line_few _ job cells out (short_output j e h k) = omega arith

-- ---- the answer of the call, by its case
module _ (job : List ℕ) (cells : List ℤ) (out : List ℕ) (answer : Answer) (cells' : List ℤ) (out' : List ℕ) (e : record {
  answer = report_answer answer;
  cells = cells';
  out = out';
} ≡ report_call job cells out) where
  answer_is : (report_call job cells out).answer ≡ report_answer answer
  answer_is = sym (ap (λ (l : Left). l.answer) e)

  -- the report's figures are in range
  pub limits : (r : Held.Report) → answer ≡ Report r → FiguresInRange rounds_limit (report_figures r)
  limits r a =
      let f = answer_is ∙ ap report_answer a in
      let (j, ok) = accepted_one job cells out (report_figures r) f in
      subst (FiguresInRange rounds_limit) (figures_are job cells out j (report_figures r) ok f) (job_limits j ((read_exactly job j).0 ok.read).1)

  -- the line of a refusal is small
  pub report_line : (why : Refusal) → answer ≡ Refused why → line_of why ≤ size_limit + 1
  report_line why a = line_few why job cells out (((promises job cells out).promise_1.refused_exactly why).0 (answer_is ∙ ap report_answer a))

-- ---- the call `exhaustive`
module _ (job : List ℕ) (answer : Std.Result PricedPlace Refusal) (e : cheapest_answer answer ≡ exhaustive_call job) where
  -- the cheapest crossing is a place of the area, and its cost that of a place
  pub spot_limits : (s : PricedPlace) → answer ≡ Ok s → PlaceInRange (priced_of s).at × (s.cost ≤ cost_limit)
  spot_limits s a = go (read_job job) refl
    where
      found : exhaustive_call job ≡ gives (priced_of s)
      found = sym e ∙ ap cheapest_answer a

      go : (r : Result) → read_job job ≡ r → PlaceInRange (priced_of s).at × (s.cost ≤ cost_limit)
      go (refused why) g = absurd (not_refused (priced_of s) (number_of why) (line_of why) (sym found
          ∙ ((exhaustive_call_law job).refused_exactly why).1 ((refused_job job why).0 g)))
      go (accepted j) g =
          let range = allowed_in_range j ((read_exactly job j).0 g).1 in
          let law = (exhaustive_call_law job).law j g in
          let same : Query.exhaustive (problem j.deck) ≡ priced_of s = same_given _ _ (sym ((exhaustive_call_law job).given j g) ∙ found) in
          let place = point_in_range j.deck.area (priced_of s).at range.area
          (subst (λ (p : Priced). In j.deck.area p.at) same law.in_area) in (
            place,
            omega (
              arith,
              (figure_limits j.deck range).cost_limit_lem (Query.exhaustive (problem j.deck)).at,
              law.costs,
              ap (λ (p : Priced). p.cost) same,
            ),
          )

  pub exhaustive_line : (why : Refusal) → answer ≡ Err why → line_of why ≤ size_limit + 1
  exhaustive_line why a = condition_line job why (((exhaustive_call_law job).refused_exactly why).0 (sym e ∙ ap cheapest_answer a))

-- ---- a refused call
module _ (figures : ℕ) (why : Refusal) (which : ℕ) where
  pub no_figure : which < figures → least ≡ get_or (refused_numbers figures why) which least
  no_figure h = sym (get_or_append_left (replicate figures least) (refusal_numbers why) least which (omega (arith, length-replicate figures least))
      ∙ get_or-replicate figures which least least h)

  pub behind_figures : figures ≤ which → get_or (refusal_numbers why) (which - figures) least ≡ get_or (refused_numbers figures why) which least
  behind_figures h = sym (get_or-append_right (replicate figures least) (refusal_numbers why) figures which least (length-replicate figures least) h)
