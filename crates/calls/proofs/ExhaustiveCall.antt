-- What the call `exhaustive` is held to, over a job's bytes.
use mathlib.Core.Path.{◌≡◌, sym, ap, ◌∙◌}
use mathlib.Core.Logic.{◌↔◌}
use Prim.Native.Nat.{ℕ}
use mathlib.Core.List.{List}
use lib.IntN.{ℤ}
use Rattle.query.specs.Order.{Priced}
use Rattle.query.specs.Figures.{Figures, done}
use Rattle.query.specs.Problem.{problem}
use Rattle.query.specs.Exhaustive as Query
use Rattle.query.specs.ExhaustiveLaw.{ExhaustiveLaw}
use Rattle.query.proofs.ExhaustiveLaws.{exhaustive_law}
use Rattle.refusal.specs.Refusal.{number_of, line_of}
use Rattle.refusal.specs.declared.Refusal.{Refusal}
use Rattle.job.specs.Format.{Job, refused, accepted, read_job}
use Rattle.job.specs.Meaning.{Condition}
use Rattle.calls.specs.Answers.{gives, refuses, refusal}
use Rattle.calls.specs.Call.{job_figures, report_call}
use Rattle.calls.specs.CheapestCall.{exhaustive_call}
use Rattle.calls.specs.ExhaustiveCallLaw.{ExhaustiveCallLaw}
use Rattle.calls.proofs.AcceptedCall as Call
use Rattle.calls.proofs.Promises.{read_exactly, figures_are, accepted_one}

module _ (job : List ℕ) where
  pub call_accepted : (j : Job) → read_job job ≡ accepted j → exhaustive_call job ≡ gives (Query.exhaustive (problem j.deck))
  unfolding exhaustive_call
  call_accepted = Call.for_accepted_lem (λ j. Query.exhaustive (problem j.deck)) job

  pub call_refused : (why : Refusal) → read_job job ≡ refused why → exhaustive_call job ≡ refusal why
  unfolding exhaustive_call
  call_refused = Call.for_refused (λ j. Query.exhaustive (problem j.deck)) job

  call_refuses : (why : Refusal) → (exhaustive_call job ≡ refusal why) ↔ Condition job why
  unfolding exhaustive_call
  call_refuses = Call.refused_exactly (λ j. Query.exhaustive (problem j.deck)) job

  refused_listed : (number line : ℕ) → exhaustive_call job ≡ refuses number line → (why : Refusal) × (number ≡ number_of why) × (line ≡ line_of why)
  unfolding exhaustive_call
  refused_listed = Call.refused_listed (λ j. Query.exhaustive (problem j.deck)) job

  law : (j : Job) → read_job job ≡ accepted j → ExhaustiveLaw j.deck
  law j e = exhaustive_law j.deck ((read_exactly job j).0 e).1.area_full

  done_report : (cells : List ℤ) (out : List ℕ) (f : Figures) → (report_call job cells out).answer ≡ gives f → f.state ≡ done →
      exhaustive_call job ≡ gives (record { at = f.at; cost = f.high })
  done_report cells out f e d =
      let (j, a) = accepted_one job cells out f e in
      let same = figures_are job cells out j f a e in
      let finished = ap (λ (g : Figures). g.state) same ∙ d in
      let both : record { at = (job_figures j).at; cost = (job_figures j).high } ≡ Query.exhaustive (problem j.deck) =
      rw ((law j a.read).done_place j.rounds finished, (law j a.read).done_cost j.rounds finished) in
      call_accepted j a.read ∙ ap (λ (p : Priced). gives p) (sym both ∙ ap (λ (g : Figures). record { at = g.at; cost = g.high }) same)

  pub exhaustive_call_law : ExhaustiveCallLaw job
  exhaustive_call_law = record {
    refused_exactly = call_refuses;
    refused_listed = refused_listed;
    given = call_accepted;
    law = law;
    done_report = done_report;
  }
