-- The calls that read, write and change records as the tests see them: what their answers carry.
use Prim.Native.Nat.{ℕ, ◌+◌, ◌≤◌}
use mathlib.Core.Path.{◌≡◌, sym, ap, ◌∙◌}
use mathlib.Core.List.{List}
use native.Mathlib.Omega.{arith}
use Rattle.deck.specs.DeckOf.{Sized}
use Rattle.deck.specs.declared.Deck.{Deck}
use Rattle.refusal.specs.Refusal.{number_of, line_of}
use Rattle.refusal.specs.declared.Refusal.{Refusal}
use Rattle.std.specs.Prelude.{Ok, Err}
use Rattle.std.specs.Prelude as Std
use Rattle.job.specs.Format.{size_limit}
use Rattle.job.specs.declared.Job as Held
use Rattle.job.proofs.JobLaws.{most_rounds}
use Rattle.job.proofs.RefusalLaws.{condition_line}
use Rattle.change.specs.Change.{Change}
use Rattle.calls.specs.Answers.{refusal, read_answer, written_answer}
use Rattle.calls.specs.ReadCall.{read_call}
use Rattle.calls.specs.WriteCall.{Saved, write_call}
use Rattle.calls.specs.ChangeCall.{AfterChange, change_call}
use Rattle.calls.specs.SavingLaw.{WriteLaw}
use Rattle.calls.proofs.Promises.{read_exactly}
use Rattle.calls.proofs.SavingLaw.{read_law, write_law}
use Rattle.calls.proofs.ChangeLaw.{change_law}

-- ---- the call `read`, by its case: the rounds of an accepted job are few, and so is the line of a refusal
module _ (job : List ℕ) (r : Std.Result Held.Job Refusal) (e : read_answer r ≡ read_call job) where
  pub rounds_few : (j : Held.Job) → r ≡ Ok j → j.rounds ≤ size_limit
  rounds_few j a =
      let (k, g, same) = ((read_law job).given_exactly j).0 (sym e ∙ ap read_answer a) in
      omega (arith, ap (λ (h : Held.Job). h.rounds) same, most_rounds ((read_exactly job k).0 g).1.writable)

  pub read_line : (why : Refusal) → r ≡ Err why → line_of why ≤ size_limit + 1
  read_line why a = condition_line job why (((read_law job).refused_exactly why).0 (sym e ∙ ap read_answer a))

-- ---- the call `write`, by its case: the bytes are few, and so is the line of a refusal
module _ (deck : Deck) (sized : Sized deck) (rounds : ℕ) (out : List ℕ) (answer : Std.Result ℕ Refusal) {out' : List ℕ}
    (e : record { answer = written_answer answer; out = out' } ≡ write_call deck rounds out) where
  law : WriteLaw deck rounds out
  law = write_law deck rounds out sized

  written_is : (write_call deck rounds out).answer ≡ written_answer answer
  written_is = sym (ap (λ (s : Saved). s.answer) e)

  pub bytes_few : (n : ℕ) → answer ≡ Ok n → n ≤ size_limit
  bytes_few n a = omega (arith, (law.written n (written_is ∙ ap written_answer a)).longest)

  pub write_line : (why : Refusal) → answer ≡ Err why → line_of why ≤ size_limit + 1
  write_line why a = omega (arith, law.few_lines (number_of why) (line_of why) (written_is ∙ ap written_answer a))

-- ---- the changes: a refused one has line 0
pub change_line : (deck : Deck) (change : Change) (why : Refusal) {after : Deck} →
    record { answer = refusal why; deck = after } ≡ change_call deck change → line_of why ≤ size_limit + 1
change_line deck change why e =
    omega (arith, (change_law deck change).line_0 (number_of why) (line_of why) (sym (ap (λ (r : AfterChange). r.answer) e)))
