-- What is promised of the C entry.
use Prim.Native.Nat.{ℕ, zero, suc, ◌≤◌, ◌<◌}
use mathlib.Core.Path.{◌≡◌, refl, sym, ap, subst, ◌∙◌}
use mathlib.Core.List.{List}
use mathlib.Core.Logic.{◌⊎◌, inl, inr, ⊎_elim}
use native.Mathlib.Omega.{arith}
use lib.Dec.{T, ltb, ltb→lt, nltb→le}
use lib.IntN.{ℤ, pos, neg_ℤ, nat_abs}
use lib.Signed.{non_neg}
use lib.ListN.{length}
use Rattle.numbers.proofs.Truth.{test}
use Rattle.query.specs.Figures.{Figures}
use Rattle.refusal.specs.Refusal.{number_of}
use Rattle.refusal.specs.declared.Refusal.{Refusal}
use Rattle.refusal.specs.declared.Refusal.TheVariants.{ShortOutput}
use Rattle.job.specs.Format.{Job, Result, refused, accepted, read_job}
use Rattle.job.specs.Meaning.{Condition}
use Rattle.job.proofs.Meaning.{refused_job}
use Rattle.write.specs.Written.{overwritten}
use Rattle.report.specs.Limits.{output_size}
use Rattle.report.specs.Text.{report_text}
use Rattle.calls.specs.Answers.{gives, refusal}
use Rattle.calls.specs.Call.{turned_down, job_figures, report_call, own_space}
use Rattle.calls.specs.Entry.{Returned, result_of, returned, entry}
use Rattle.calls.specs.Promises.{in_reading, short_output}
use Rattle.calls.specs.EntryLaw.{EntryLaw}
use Rattle.calls.proofs.Promises.{reports, refuses_so}
use Rattle.calls.proofs.OwnSpace.{own_enough, own_accepted}

given_result : (f : Figures) → result_of (gives f) ≡ pos (length (report_text f))
unfolding result_of
given_result f = refl

refused_result : (why : Refusal) → result_of (refusal why) ≡ neg_ℤ (pos (number_of why))
unfolding result_of
refused_result why = refl

minus_size : (n : ℕ) → nat_abs (neg_ℤ (pos n)) ≡ n
minus_size zero = refl
minus_size (suc n) = refl

minus_same : (m n : ℕ) → neg_ℤ (pos m) ≡ neg_ℤ (pos n) → m ≡ n
minus_same m n e = sym (minus_size m) ∙ ap nat_abs e ∙ minus_size n

-- a report has some bytes, and so many are not minus a number
some_text : (f : Figures) → 1 ≤ length (report_text f)
unfolding report_text
some_text f = omega arith

minus_none : (m n : ℕ) → 1 ≤ m → pos m ≡ neg_ℤ (pos n) → ⊥
minus_none m zero h e = omega (arith, ap nat_abs e)
minus_none m (suc n) h e = subst (λ (z : ℤ). T (non_neg z)) e tt

module _ (job out : List ℕ) where
  entry_of : entry job out ≡ returned (report_call job own_space out)
  unfolding entry
  entry_of = refl

  entry_reports : (j : Job) → read_job job ≡ accepted j → output_size ≤ length out →
      entry job out ≡ record { result = pos (length (report_text (job_figures j))); out = overwritten (report_text (job_figures j)) out }
  entry_reports j e h =
      let r = reports job own_space out j (own_accepted job out j e h) in
      let result : result_of (report_call job own_space out).answer ≡ pos (length (report_text (job_figures j))) =
      ap result_of r.answer ∙ given_result (job_figures j) in
      entry_of ∙ ap (λ (z : ℤ). record { result = z; out = (report_call job own_space out).out }) result
      ∙ ap (λ (o : List ℕ). record { result = pos (length (report_text (job_figures j))); out = o }) r.text

  turned_down_lem : (why : Refusal) → report_call job own_space out ≡ turned_down why own_space out →
      entry job out ≡ record { result = neg_ℤ (pos (number_of why)); out = out }
  turned_down_lem why e = entry_of ∙ ap returned e ∙ ap (λ (z : ℤ). record { result = z; out = out }) (refused_result why)

  entry_refuses : (why : Refusal) → Condition job why → entry job out ≡ record { result = neg_ℤ (pos (number_of why)); out = out }
  entry_refuses why c = turned_down_lem why (refuses_so job own_space out why (in_reading c))

  entry_short : (j : Job) → read_job job ≡ accepted j → length out < output_size → entry job out ≡ record { result = neg_ℤ (pos 8); out = out }
  entry_short j e h = turned_down_lem ShortOutput (refuses_so job own_space out ShortOutput (short_output j e (own_enough job out j e) h))

  -- a result that is minus a number is that of a refusal of reading, or of 8
  pub minus_which : (n : ℕ) → (entry job out).result ≡ neg_ℤ (pos n) → ((why : Refusal) × (read_job job ≡ refused why) × (n ≡ number_of why)) ⊎ (n ≡ 8)
  minus_which n f = go (read_job job) refl
    where
      same : {z : ℤ} {o : List ℕ} → entry job out ≡ record { result = z; out = o } → z ≡ neg_ℤ (pos n)
      same e = sym (ap (λ (r : Returned). r.result) e) ∙ f

      go : (r : Result) → read_job job ≡ r → ((why : Refusal) × (read_job job ≡ refused why) × (n ≡ number_of why)) ⊎ (n ≡ 8)
      go (refused why) e = inl (why, e, sym (minus_same (number_of why) n (same (entry_refuses why ((refused_job job why).0 e)))))
      go (accepted j) e = ⊎_elim (λ t. inr (sym (minus_same 8 n (same (entry_short j e (ltb→lt _ _ t))))))
          (λ t. absurd (minus_none _ n (some_text (job_figures j)) (same (entry_reports j e (nltb→le _ _ t)))))
          (test (ltb (length out) output_size))

  pub entry_law : EntryLaw job out
  entry_law = record {
    report = entry_reports;
    refusal = entry_refuses;
    short_output = entry_short;
  }
