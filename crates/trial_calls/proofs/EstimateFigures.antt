-- The call `estimate` as the tests see it: what its answer carries, as numbers.
use Prim.Native.Nat.{ℕ, ◌+◌, ◌≤◌}
use mathlib.Core.Path.{◌≡◌, sym, ap, ◌∙◌}
use mathlib.Core.List.{List}
use native.Mathlib.Omega.{arith}
use Rattle.refusal.specs.Refusal.{line_of}
use Rattle.refusal.specs.declared.Refusal.{Refusal}
use Rattle.job.specs.Format.{size_limit}
use Rattle.job.proofs.RefusalLaws.{condition_line}
use Rattle.calls.specs.declared.Estimate as Held
use Rattle.std.specs.Prelude.{Ok, Err}
use Rattle.std.specs.Prelude as Std
use Rattle.calls.specs.Answers.{estimate_numbers, estimated_answer}
use Rattle.calls.specs.EstimateCall.{estimate_call}
use Rattle.calls.proofs.EstimateCall.{estimate_call_law}
use Rattle.estimate.proofs.EstimateLaws.{given_small}
use Rattle.trial_calls.specs.Estimates.{SmallEstimate}

-- ---- the answer of the call, by its case
module _ (job : List ℕ) (answer : Std.Result Held.Estimate Refusal) (e : estimated_answer answer ≡ estimate_call job) where
  pub estimate_small : (n : Held.Estimate) → answer ≡ Ok n → SmallEstimate (estimate_numbers n)
  estimate_small n a =
      let (across, deep, limit, cells) = given_small job (estimate_numbers n) (sym e ∙ ap estimated_answer a) in
      record { across = omega arith; deep = omega arith; limit = omega arith; cells = omega arith }

  pub estimate_line : (why : Refusal) → answer ≡ Err why → line_of why ≤ size_limit + 1
  estimate_line why a = condition_line job why (((estimate_call_law job).refused_exactly why).0 (sym e ∙ ap estimated_answer a))
