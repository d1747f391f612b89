-- How large the line and the number of a refusal can be that reading gives.
use mathlib.Core.Path.{◌≡◌, refl, sym, ap, ◌∙◌}
use mathlib.Core.List.{List, [], ◌∷◌, ◌++◌, flatten}
use mathlib.Core.Option.{Option, none, some}
use Prim.Native.Nat.{ℕ, suc, ◌≤◌}
use native.Mathlib.Omega.{arith}
use lib.IntN.{ℤ}
use lib.ListN.{length, length-append}
use Rattle.numbers.proofs.Joined.{flatten_snoc}
use Rattle.job_line.specs.Kinds.{Kind, area, axis, posts, post, stops, stop, rounds, row, form_of}
use Rattle.job.specs.Format.{refused, read_job, size_limit}
use Rattle.refusal.specs.Refusal.{number_of, line_of}
use Rattle.job.specs.Meaning.{Good, top, one_more, FirstMalformed, no_form, too_much, Condition, too_long, in_text}
use Rattle.job.specs.Meaning.{TextCondition, malformed, out_of_range, empty_area_law, no_posts, no_stops}
use Rattle.refusal.specs.declared.Refusal.{Refusal}
use Rattle.job.proofs.Meaning.{refused_job}

-- ---- the line: each line before it has a byte
no_bytes : (k : Kind) → form_of (row k) [] ≡ none
unfolding form_of
no_bytes area = refl
no_bytes axis = refl
no_bytes posts = refl
no_bytes post = refl
no_bytes stops = refl
no_bytes stop = refl
no_bytes rounds = refl

not_none : {A C : Type 0} {a : A} → ◌≡◌ {A = Option A} none (some a) → C
not_none e = absurd (let z : ◌≡◌ {A = ℕ} 0 1 = cc in omega arith)

some_bytes : (k : Kind) (text : List ℕ) {r : List ℤ × List ℕ} → form_of (row k) text ≡ some r → 1 ≤ length text
some_bytes k [] e = not_none (sym (no_bytes k) ∙ e)
some_bytes k (b ∷ text) e = omega arith

good_length : {lines : List (List ℕ)} {rest : List ℕ} {due : List Kind} → Good lines rest due → length lines ≤ length (flatten lines)
good_length top = omega arith
good_length (one_more {lines} {rest} {kind} {due} text ns good e t) =
    let joined : flatten (lines ++ (text ∷ [])) ++ [] ≡ flatten lines ++ (text ++ []) = flatten_snoc lines text [] in
    let same = ap length joined in
    omega (
      arith,
      good_length good,
      some_bytes kind text e,
      length-append lines (text ∷ []),
      length-append (flatten lines) (text ++ []),
      length-append text [],
      length-append (flatten (lines ++ (text ∷ []))) [],
      same,
    )

line_number : (bytes : List ℕ) (lines : List (List ℕ)) (rest : List ℕ) {due : List Kind} {n : ℕ} → length bytes ≤ size_limit → Good lines rest due →
    bytes ≡ flatten lines ++ rest → n ≡ suc (length lines) → n ≤ suc size_limit
line_number bytes lines rest short good split number = omega (arith, good_length good, ap length split, length-append (flatten lines) rest)

malformed_most : (bytes : List ℕ) (n : ℕ) → length bytes ≤ size_limit → FirstMalformed bytes n → n ≤ suc size_limit
malformed_most bytes n short (no_form lines rest k due good split number e) = line_number bytes lines rest short good split number
malformed_most bytes n short (too_much lines rest good split number some-text) = line_number bytes lines rest short good split number

pub condition_line : (bytes : List ℕ) (why : Refusal) → Condition bytes why → line_of why ≤ suc size_limit
condition_line bytes _ (too_long h) = omega arith
condition_line bytes _ (in_text short (malformed {n} f)) = malformed_most bytes n short f
condition_line bytes _ (in_text short (out_of_range f)) = line_number bytes f.lines f.rest short f.before f.split f.number
condition_line bytes _ (in_text short (empty_area_law s t)) = omega arith
condition_line bytes _ (in_text short (no_posts s t p)) = omega arith
condition_line bytes _ (in_text short (no_stops s t p q)) = omega arith

-- 2 to 6, and 1 besides
pub text_number : (bytes : List ℕ) (why : Refusal) → TextCondition bytes why → (2 ≤ number_of why) × (number_of why ≤ 6)
text_number bytes _ (malformed f) = omega arith
text_number bytes _ (out_of_range f) = omega arith
text_number bytes _ (empty_area_law s t) = omega arith
text_number bytes _ (no_posts s t p) = omega arith
text_number bytes _ (no_stops s t p q) = omega arith

pub condition_number : (bytes : List ℕ) (why : Refusal) → Condition bytes why → number_of why ≤ 6
condition_number bytes _ (too_long h) = omega arith
condition_number bytes why (in_text short f) = (text_number bytes why f).1

pub line_most : (bytes : List ℕ) (why : Refusal) → read_job bytes ≡ refused why → line_of why ≤ suc size_limit
line_most bytes why e = condition_line bytes why ((refused_job bytes why).0 e)
