-- `exhaustive` of a job: the answer of `cheapest` is the call's.
use mathlib.Core.Path.{◌≡◌, sym, ap, ◌∙◌}
use mathlib.Core.List.{List}
use Prim.Native.Nat.{ℕ}
use Rattle.std.specs.Prelude.{Ok, Err}
use Rattle.query.specs.Order.{Priced}
use Rattle.query.specs.Problem.{problem}
use Rattle.query.specs.Exhaustive as Query
use Rattle.job.specs.Format.{refused, read_job}
use Rattle.refusal.specs.declared.Refusal.{Refusal}
use Rattle.priced_place.specs.ObjectProblem.{priced_of}
use Rattle.priced_place.specs.declared.PricedPlace.{PricedPlace}
use Rattle.calls.specs.Answers.{gives, cheapest_answer}
use Rattle.calls.specs.CheapestCall.{exhaustive_call}
use Rattle.job.proofs.ReadDeck.{Spelt}
use Rattle.calls.proofs.ExhaustiveCall.{call_accepted, call_refused}

pub exhaustive_found : (job : List ℕ) (t : Spelt job) (s : PricedPlace) → priced_of s ≡ Query.exhaustive (problem t.job.deck) →
    cheapest_answer (Ok s) ≡ exhaustive_call job
exhaustive_found job t s f = ap (λ (q : Priced). gives q) f ∙ sym (call_accepted job t.job t.read)

pub exhaustive_refused : (job : List ℕ) (why : Refusal) → read_job job ≡ refused why → cheapest_answer (Err why) ≡ exhaustive_call job
exhaustive_refused job why e = sym (call_refused job why e)
