-- What is promised of the program's text.
use Prim.Native.Nat.{ℕ, ◌<◌, ◌≤◌, ◌^◌}
use mathlib.Core.Path.{◌≡◌, refl, sym, ap, ◌∙◌}
use mathlib.Core.List.{List, flatten}
use mathlib.Core.Logic.{⊎_elim}
use mathlib.Core.Option.{none, some, none-ne-some}
use native.Mathlib.Omega.{arith}
use lib.IntN.{pos}
use lib.ListN.{replicate, drop, length-replicate}
use Rattle.std.proofs.lemmas.Bool.{cases_lt}
use Rattle.query.specs.Figures.{Figures}
use Rattle.text.specs.Ascii.{bytes}
use Rattle.text.specs.Decimal.{spell_int}
use Rattle.text.specs.Numeral.{digits, number as read_number}
use Rattle.text.proofs.NumeralLaws.{number_spelled, number_too_long}
use Rattle.refusal.specs.Refusal.{number_of, line_of}
use Rattle.refusal.specs.declared.Refusal.{Refusal}
use Rattle.refusal.proofs.Numbers.{number_most}
use Rattle.job.specs.Format.{Job, Result, refused, accepted, read_job}
use Rattle.job.specs.Meaning.{Condition}
use Rattle.job.proofs.Meaning.{refused_job}
use Rattle.report.specs.Limits.{output_size}
use Rattle.report.specs.Text.{report_text, refusal_text}
use Rattle.report.proofs.TextLaws.{report_no_refusal, refusal_number}
use Rattle.calls.specs.Answers.{gives, refuses}
use Rattle.calls.specs.Call.{Left, job_figures, report_call, own_space}
use Rattle.calls.specs.Program.{text_of, answer_text}
use Rattle.calls.specs.Promises.{in_reading}
use Rattle.calls.specs.ProgramLaw.{ProgramLaw}
use Rattle.calls.proofs.Promises.{reports, refuses_so}
use Rattle.calls.proofs.OwnSpace.{own_accepted}

given_text : (f : Figures) → text_of (gives f) ≡ report_text f
unfolding text_of
given_text f = refl

refused_text : (number line : ℕ) → text_of (refuses number line) ≡ refusal_text number line
unfolding text_of
refused_text number line = refl

-- the text of a refusal tells its number, whatever number another text is of
long_number : (number line : ℕ) → 10 ^ 9 ≤ number → read_number (drop 8 (refusal_text number line)) ≡ none
unfolding refusal_text spell_int
long_number number line h = number_too_long (pos number) _ h

short_number : (number line : ℕ) → number < 10 ^ 9 → (rest : List ℕ) × (read_number (drop 8 (refusal_text number line)) ≡ some (pos number, rest))
unfolding refusal_text flatten spell_int bytes digits
short_number number line h = (_, number_spelled (pos number) _ h refl)

same_number : (n l number line : ℕ) → n < 10 ^ 9 → refusal_text n l ≡ refusal_text number line → number ≡ n
same_number n l number line h e = ⊎_elim (λ k. sym (refusal_number n l number line h k e))
    (λ k. let (rest, found) = short_number n l h in
    absurd (none-ne-some (pos n, rest) (sym (long_number number line k) ∙ ap (λ (text : List ℕ). read_number (drop 8 text)) (sym e) ∙ found)))
    (cases_lt number (10 ^ 9))

module _ (job : List ℕ) where
  abbrev output : List ℕ
  output = replicate output_size 0

  text_of_lem : answer_text job ≡ text_of (report_call job own_space output).answer
  unfolding answer_text
  text_of_lem = refl

  reported_text : (j : Job) → read_job job ≡ accepted j → answer_text job ≡ report_text (job_figures j)
  reported_text j e = text_of_lem
      ∙ ap text_of (reports job own_space output j (own_accepted job output j e (omega (arith, length-replicate {A = ℕ} output_size 0)))).answer
      ∙ given_text (job_figures j)

  refusal_text_lem : (why : Refusal) → Condition job why → answer_text job ≡ refusal_text (number_of why) (line_of why)
  refusal_text_lem why c = text_of_lem ∙ ap (λ (l : Left). text_of l.answer) (refuses_so job own_space output why (in_reading c))
      ∙ refused_text (number_of why) (line_of why)

  -- a refusal's text is that of a refusal of reading
  pub text_which : (number line : ℕ) → answer_text job ≡ refusal_text number line →
      (why : Refusal) × (read_job job ≡ refused why) × (number ≡ number_of why)
  text_which number line f = go (read_job job) refl
    where
      go : (r : Result) → read_job job ≡ r → (why : Refusal) × (read_job job ≡ refused why) × (number ≡ number_of why)
      go (refused why) e =
          let c = (refused_job job why).0 e in
          (why, e, same_number (number_of why) (line_of why) number line (omega (arith, number_most why)) (sym (refusal_text_lem why c) ∙ f))
      go (accepted j) e = absurd (report_no_refusal (job_figures j) number line (sym (reported_text j e) ∙ f))

  pub program_law : ProgramLaw job
  program_law = record {
    report = reported_text;
    refusal = refusal_text_lem;
  }
