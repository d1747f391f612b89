-- What the call `estimate` is held to, over a job's bytes.
use Prim.Native.Nat.{ℕ, ◌*◌, ◌≤◌, ◌<◌}
use mathlib.Core.Path.{◌≡◌, refl, sym, ap, ap₂, ◌∙◌}
use mathlib.Core.Logic.{◌↔◌}
use mathlib.Core.List.{List}
use native.Mathlib.Omega.{arith}
use lib.IntN.{ℤ}
use lib.ListN.{length}
use Rattle.query.specs.Figures.{Figures}
use Rattle.query.specs.Space.{space_needed}
use Rattle.query.specs.Estimate.{Estimate, estimate}
use Rattle.query.proofs.EstimateLaws.{estimate_law}
use Rattle.refusal.specs.Refusal.{number_of, line_of}
use Rattle.refusal.specs.declared.Refusal.{Refusal}
use Rattle.refusal.specs.declared.Refusal.TheVariants.{SmallSpace}
use Rattle.job.specs.Format.{Job, refused, accepted, read_job}
use Rattle.job.specs.Meaning.{Condition}
use Rattle.job.proofs.RefusalLaws.{condition_number}
use Rattle.calls.specs.Answers.{gives, refuses, refusal}
use Rattle.calls.specs.Call.{Left, report_call}
use Rattle.calls.specs.Promises.{Applies, in_reading, small_space, short_output}
use Rattle.calls.specs.EstimateCall.{estimate_call}
use Rattle.calls.specs.EstimateCallLaw.{EstimateCallLaw}
use Rattle.calls.proofs.AnswerLaws.{same_given}
use Rattle.calls.proofs.AcceptedCall as Call
use Rattle.calls.proofs.Promises.{refused_call, accepted_one, promises}

abbrev needed : Job → Estimate
needed j = estimate j.deck j.rounds

module _ (job : List ℕ) where
  pub call_accepted : (j : Job) → read_job job ≡ accepted j → estimate_call job ≡ gives (needed j)
  unfolding estimate_call
  call_accepted = Call.for_accepted_lem needed job

  pub call_refused : (why : Refusal) → read_job job ≡ refused why → estimate_call job ≡ refusal why
  unfolding estimate_call
  call_refused = Call.for_refused needed job

  call_refuses : (why : Refusal) → (estimate_call job ≡ refusal why) ↔ Condition job why
  unfolding estimate_call
  call_refuses = Call.refused_exactly needed job

  -- a number and line that are refused are those of a refusal in reading
  refused_one : (number line : ℕ) → estimate_call job ≡ refuses number line →
      (why : Refusal) × (read_job job ≡ refused why) × (number ≡ number_of why) × (line ≡ line_of why)
  unfolding estimate_call
  refused_one = Call.refused_one needed job

  own_refusal : (number line : ℕ) → estimate_call job ≡ refuses number line → (cells : List ℤ) (out : List ℕ) →
      (report_call job cells out).answer ≡ refuses number line
  own_refusal number line e cells out =
      let (why, g, n, l) = refused_one number line e in ap (λ (l : Left). l.answer) (refused_call job cells out why g) ∙ ap₂ refuses (sym n) (sym l)

  -- the estimate that is given is that of the job that was read
  pub given_one : (e : Estimate) → estimate_call job ≡ gives e → (j : Job) × (read_job job ≡ accepted j) × (needed j ≡ e)
  unfolding estimate_call
  given_one e g = let (j, r) = Call.accepted_one needed job e g in (j, r, same_given (needed j) e (sym (call_accepted j r) ∙ g))

  module _ (e : Estimate) (g : estimate_call job ≡ gives e) (cells : List ℤ) (out : List ℕ) where
    space_is : (j : Job) → read_job job ≡ accepted j → space_needed j.deck j.rounds ≡ 5 * e.cells
    unfolding estimate
    space_is j r = ap (λ (x : Estimate). 5 * x.cells) (same_given (needed j) e (sym (call_accepted j r) ∙ g))

    too_small : (why : Refusal) → number_of why ≡ 7 → Applies job cells out why → length cells < 5 * e.cells
    too_small why s (in_reading c) = absurd (omega (arith, condition_number job why c))
    too_small _ s (small_space j r h) = omega (arith, space_is j r)
    too_small _ s (short_output j r h k) = absurd (omega arith)

    small_space_exactly : ((report_call job cells out).answer ≡ refuses 7 0) ↔ (length cells < 5 * e.cells)
    small_space_exactly =
        let exactly = (promises job cells out).promise_1.refused_exactly SmallSpace in
        let (j, r, same) = given_one e g in
        (λ a. too_small SmallSpace refl (exactly.0 a), λ h. exactly.1 (small_space j r (omega (arith, space_is j r))))

    limit : (f : Figures) → (report_call job cells out).answer ≡ gives f → f.rounds ≤ e.limit
    unfolding estimate
    limit f a =
        let (j, h) = accepted_one job cells out f a in
        omega (
          arith,
          ((promises job cells out).promise_3 j f h a).law.cut_limit_law,
          ap (λ (x : Estimate). x.limit) (same_given (needed j) e (sym (call_accepted j h.read) ∙ g)),
        )

  pub estimate_call_law : EstimateCallLaw job
  estimate_call_law = record {
    refused_exactly = call_refuses;
    refused_listed = λ number line e. let (why, g, n, l) = refused_one number line e in (why, n, l);
    own_refusal = own_refusal;
    given = call_accepted;
    law = λ j e. estimate_law j.deck j.rounds;
    small_space = small_space_exactly;
    limit = limit;
  }
