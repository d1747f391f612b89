-- The C entry and the program's text, from the answer of the call.
use Prim.Native.Nat.{ℕ, zero, suc, ◌≤◌}
use mathlib.Core.Path.{◌≡◌, refl, sym, ap, subst, ◌∙◌}
use mathlib.Core.List.{List, []}
use native.Mathlib.Omega.{arith}
use mir.Syntax.{w64}
use mir.Val.{SFits, to_z, of_z}
use mir.ValLaws.{to_z-of_z, to_z_pos}
use lib.IntN.{ℤ, pos, neg_ℤ, ◌-ℤ◌}
use lib.ListN.{length, replicate, take}
use Rattle.std.specs.Prelude.{Ok, Err}
use Rattle.numbers.specs.Padded.{padded}
use Rattle.numbers.proofs.Integer.{order, sub_nat}
use Rattle.numbers.proofs.Words.{difference, difference_fits}
use Rattle.refusal.proofs.Numbers.{number_most}
use Rattle.refusal.specs.Refusal.{number_of, line_of}
use Rattle.refusal.specs.declared.Refusal.{Refusal}
use Rattle.report.specs.Report.{report_figures}
use Rattle.report.specs.Limits.{output_size}
use Rattle.report.specs.Text.{report_text, refusal_text}
use Rattle.write.specs.Written.{overwritten, Overwrote}
use Rattle.report.proofs.Fits.{report_fits}
use Rattle.numbers.proofs.Padded.{padded_front, padded_none, padded_over}
use Rattle.siting.specs.declared.Response.{Response}
use Rattle.calls.specs.TextIn.{TextIn}
use Rattle.calls.specs.Call.{Left, report_call, own_space}
use Rattle.calls.specs.Entry.{result_of, returned, entry}
use Rattle.calls.specs.Program.{text_of, answer_text}
use Rattle.siting.specs.Response.{Responded}

-- ---- refusal numbers as signed words
pub minus_fits : (why : Refusal) (n : ℕ) → n ≡ number_of why → SFits w64 (to_z w64 0 -ℤ to_z w64 n)
minus_fits why n e = difference_fits 0 n (omega arith) (omega (arith, number_most why))

zero_minus : (n : ℕ) → pos 0 -ℤ pos n ≡ neg_ℤ (pos n)
zero_minus zero = refl
zero_minus (suc n) = omega (arith, order, sub_nat (pos 0) (pos (suc n)))

pub minus_number : (why : Refusal) → to_z w64 (of_z w64 (to_z w64 0 -ℤ to_z w64 (number_of why))) ≡ neg_ℤ (pos (number_of why))
minus_number why =
    let n = number_of why in
    to_z-of_z w64 (to_z w64 0 -ℤ to_z w64 n) (minus_fits why n refl) ∙ difference 0 n (omega arith) (omega (arith, number_most why)) ∙ zero_minus n

-- ---- the C entry
module _ (job out : List ℕ) (cells : List ℤ) (out' : List ℕ) where
  pub entry_report : (x : Response) → Responded (report_call job own_space out) out cells out' (Ok x) →
      record { result = to_z w64 x.bytes; out = out' } ≡ entry job out
  unfolding entry result_of
  entry_report x s =
      ap (λ (z : ℤ). record { result = z; out = out' }) (to_z_pos w64 x.bytes (omega (arith, s.few)) ∙ ap pos s.filled.number)
      ∙ ap returned s.left

  pub entry_refused : (why : Refusal) → Responded (report_call job own_space out) out cells out' (Err why) → (n : ℕ) → n ≡ number_of why →
      record { result = to_z w64 (of_z w64 (to_z w64 0 -ℤ to_z w64 n)); out = out' } ≡ entry job out
  unfolding entry result_of
  entry_refused why s n f = ap (λ (z : ℤ). record { result = z; out = out' }) (rw f (minus_number why)) ∙ ap returned s.left

-- ---- the program's text
padded_is : (text : List ℕ) → length text ≤ output_size → overwritten text (replicate output_size 0) ≡ padded output_size 0 text
unfolding overwritten
padded_is text h = rw (padded_none {A = ℕ} output_size 0) at (padded_over {A = ℕ} output_size 0 [] text (omega arith) h)

nothing_over : (out : List ℕ) → overwritten [] out ≡ out
unfolding overwritten
nothing_over out = refl

-- a text written over zeros
module _ {out : List ℕ} {n : ℕ} (text : List ℕ) (f : Overwrote (replicate output_size 0) text out n) (h : length text ≤ output_size) where
  padded_out : out ≡ padded output_size 0 text
  padded_out = f.content ∙ padded_is text h

  text_taken : take n out ≡ text
  text_taken = (λ i. take (f.number i) (padded_out i)) ∙ padded_front output_size 0 text

  text_in : TextIn out n
  text_in = record { few = omega (arith, f.number); rest = padded_out ∙ ap (padded output_size 0) (sym text_taken) }

module _ (job : List ℕ) (cells : List ℤ) (out : List ℕ) where
  module _ (x : Response) (s : Responded (report_call job own_space (replicate output_size 0)) (replicate output_size 0) cells out (Ok x)) where
    report_text_few : length (report_text (report_figures x.report)) ≤ output_size
    report_text_few = omega (arith, s.few, s.filled.number)

    pub report_in : TextIn out x.bytes
    report_in = text_in (report_text (report_figures x.report)) s.filled report_text_few

    pub text_report : take x.bytes out ≡ answer_text job
    unfolding answer_text text_of
    text_report =
        text_taken (report_text (report_figures x.report)) s.filled report_text_few
        ∙ ap (λ (l : Left). text_of l.answer) s.left

  module _ (why : Refusal) (s : Responded (report_call job own_space (replicate output_size 0)) (replicate output_size 0) cells out (Err why))
      (out' : List ℕ) (n : ℕ) (f : Overwrote out (refusal_text (number_of why) (line_of why)) out' n) where
    over_zeros : Overwrote (replicate output_size 0) (refusal_text (number_of why) (line_of why)) out' n
    over_zeros = subst (λ (o : List ℕ). Overwrote o (refusal_text (number_of why) (line_of why)) out' n)
        (s.filled.content ∙ nothing_over (replicate output_size 0)) f

    refusal_few : length (refusal_text (number_of why) (line_of why)) ≤ output_size
    refusal_few = omega (arith, report_fits.refusal_longest why)

    pub refusal_in_text : TextIn out' n
    refusal_in_text = text_in (refusal_text (number_of why) (line_of why)) over_zeros refusal_few

    pub text_refused : take n out' ≡ answer_text job
    unfolding answer_text text_of
    text_refused =
        text_taken (refusal_text (number_of why) (line_of why)) over_zeros refusal_few
        ∙ ap (λ (l : Left). text_of l.answer) s.left
