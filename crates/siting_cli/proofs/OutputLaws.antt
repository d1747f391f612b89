-- From what was read and what was written to what the program leaves.
use Rattle.std.proofs.Common.{◌≡◌, ◌≢◌, inl, inr, ℕ, ◌<◌, ◌≤◌, List, ◌++◌, Option, None, Some, Result, Ok, Err, OnOk, arith}
use Rattle.std.proofs.Common.{sym, ap, ◌∙◌, subst, length, take, append-nil, length-append}
use Rattle.std.proofs.lemmas.Bool.{cases_lt}
use Rattle.std.proofs.Math.Seq.{take-append_seam}
use Rattle.std.specs.Io.KnownBytes.{Consumes, IsAtEnd, Appends}
use Rattle.job.specs.Format.{size_limit}
use Rattle.calls.specs.Program.{answer_text}
use Rattle.siting_cli.specs.Output.{AnswersAll}
use Rattle.siting_cli.proofs.LongJob.{first_bytes}

-- bytes that an input has lost are its first ones
first : (job bytes rest : List ℕ) → job ≡ bytes ++ rest → take (length bytes) job ≡ bytes
first job bytes rest e = ap (take (length bytes)) e ∙ take-append_seam bytes rest

-- what holds but where one thing failed holds of an `Ok`
pub of_ok : {A E P : Type 0} {why : E} (r : Result A E) → (r ≢ Err why → P) → OnOk r P
of_ok (Ok a) h = h (λ e. cc)
of_ok (Err e) h = tt

-- all of the input was read, or more bytes than a job may have
pub all_lem : (input left old new : Option (List ℕ)) (bytes : List ℕ) → (length bytes ≤ size_limit → IsAtEnd left)
    → Consumes input left bytes → Appends old new (answer_text bytes) → AnswersAll input old new
all_lem None left old new bytes end c a = tt
all_lem (Some job) None old new bytes end c a = absurd c
all_lem (Some job) (Some rest) old new bytes end c a = subst (λ l. Appends old new l)
    (elim (cases_lt size_limit (length bytes)) [ inl h ↦ long h | inr h ↦ short h ]) a
  where
    long : size_limit < length bytes → answer_text bytes ≡ answer_text job
    long h = ap answer_text (sym (first job bytes rest c)) ∙ first_bytes job (length bytes) h (omega (arith, ap length c, length-append bytes rest))

    short : length bytes ≤ size_limit → answer_text bytes ≡ answer_text job
    short h = ap answer_text (sym (c ∙ ap (λ l. bytes ++ l) (end h) ∙ append-nil bytes))
