-- `read` and `write`, from what `job` reads and what `job_check` and `job_file` answer.
use Prim.Native.Nat.{ℕ, ◌≤◌, ◌<◌}
use mathlib.Core.Path.{◌≡◌, refl, sym, ap, ap₂, ◌∙◌}
use mathlib.Core.List.{List}
use mathlib.Core.Option.{some}
use native.Mathlib.Omega.{arith}
use lib.ListN.{length}
use Rattle.deck.specs.DeckOf.{Sized}
use Rattle.deck.specs.declared.Deck.{Deck}
use Rattle.refusal.specs.declared.Refusal.{Refusal}
use Rattle.refusal.specs.declared.Refusal.TheVariants.{ShortOutput}
use Rattle.job.specs.Format.{Result, refused, accepted, read_text, read_job}
use Rattle.job.specs.JobRecord.{job_result, job_record}
use Rattle.job.specs.declared.Job as Held
use Rattle.std.specs.Prelude as Std
use Rattle.job.specs.File.{file_text}
use Rattle.job_check.specs.LineFaults.{refusal_in, checked_as}
use Rattle.std.specs.Prelude.{Ok, Err}
use Rattle.job_check.proofs.FileFaults.{FileIs, file_is}
use Rattle.write.specs.Written.{Overwrote}
use Rattle.calls.specs.Answers.{AnswerOf, gives, refusal, for_accepted, read_answer}
use Rattle.calls.specs.ReadCall.{read_call}
use Rattle.calls.specs.WriteCall.{write_call}
use Rattle.calls.proofs.SavingLaw.{file_refused, file_short, file_written}

-- ---- read
pub read_answers : (job : List ℕ) (r : Std.Result Held.Job Refusal) → r ≡ job_result (read_job job) → read_answer r ≡ read_call job
unfolding read_call for_accepted job_result
read_answers job r e = ap read_answer e ∙ go (read_job job)
  where
    go : (q : Result) → ◌≡◌ {A = AnswerOf Held.Job} (read_answer (job_result q)) (for_accepted job_record q)
    go (refused why) = refl
    go (accepted job) = refl

-- ---- write
refusal_is : (r : Result) (why : Refusal) → some why ≡ refusal_in r → r ≡ refused why
refusal_is (refused other) why e = cc
refusal_is (accepted job) why e = absurd (let z : ◌≡◌ {A = ℕ} 0 1 = cc in omega arith)

module _ (deck : Deck) (rounds : ℕ) {r : Std.Result (Unit {0}) Refusal} (e : checked_as r ≡ refusal_in (read_text (file_text deck rounds))) where
  pub write_refused : (out : List ℕ) (why : Refusal) → r ≡ Err why → record { answer = refusal why; out = out } ≡ write_call deck rounds out
  write_refused out why p = sym (file_refused deck rounds out why (refusal_is (read_text (file_text deck rounds)) why (sym (ap checked_as p) ∙ e)))

  module _ (sized : Sized deck) {u : Unit {0}} (p : r ≡ Ok u) where
    pub file_fine : FileIs deck rounds sized
    file_fine = file_is deck rounds sized (sym e ∙ ap checked_as p)

    pub write_short : (out : List ℕ) (n : ℕ) → n ≡ length (file_text deck rounds) → length out < n →
        record { answer = refusal ShortOutput; out = out } ≡ write_call deck rounds out
    write_short out n l h = sym (file_short deck rounds out _ file_fine.read (omega (arith, l)))

    pub write_written : (out : List ℕ) {n : ℕ} {after : List ℕ} → length (file_text deck rounds) ≤ length out → Overwrote out (file_text deck rounds) after n
        → record { answer = gives n; out = after } ≡ write_call deck rounds out
    write_written out h w = ap₂ (λ (n : ℕ) (l : List ℕ). record { answer = gives n; out = l }) w.number w.content
        ∙ sym (file_written deck rounds out _ file_fine.read h)
