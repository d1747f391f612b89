-- The first fault of a text, by the kinds of lines that are due: reading a job gives it where there is one.
use mathlib.Core.Path.{◌≡◌, refl, sym, ap, subst, ◌∙◌}
use mathlib.Core.Bool.{Bool, true, false, not, cond}
use mathlib.Core.Logic.{◌↔◌}
use mathlib.Core.List.{List, [], ◌∷◌, ◌++◌, flatten}
use mathlib.Core.Option.{Option, none, some}
use Prim.Native.Nat.{ℕ, zero, suc, ◌+◌}
use native.Mathlib.Omega.{arith}
use lib.Dec.{T}
use lib.IntN.{ℤ}
use lib.ListN.{length, length-append, replicate}
use Rattle.numbers.proofs.Joined.{flatten_snoc}
use Rattle.numbers.proofs.Truth.{holds, fails, cond_ind}
use Rattle.query.specs.Deck.{AxisCosts}
use Rattle.text.specs.TextReading.{starts_with}
use Rattle.job_line.specs.Kinds.{Kind, area, axis, posts, post, stops, stop, rounds, row, form_of, in_ranges}
use Rattle.job_line.specs.OneLine.{Reading, fault, got, Reader, line, line_result}
use Rattle.job.specs.Reader.{and_then, ◌>>=◌, return, repeated, optional, end}
use Rattle.job.specs.Format.{Job, axis_numbers, count_of, job_of, job_lines}
use Rattle.job.specs.Meaning.{due_after, Good, top, one_more, FirstMalformed, no_form, too_much, FirstOutOfRange, TextCondition, malformed, out_of_range}
use Rattle.refusal.specs.declared.Refusal.{Refusal}
use Rattle.refusal.specs.declared.Refusal.TheVariants.{Malformed, OutOfRange}
use Rattle.job.proofs.FormLaws.{text_of, form_spells, form_whole, form_local}
use Rattle.job.proofs.RangeLaws.{range_fits}
use Rattle.job.proofs.ReaderLaws.{not_got, optional_is}

-- the fault of the text bs from line n on, where lines of these kinds are due
pub data Faults : List Kind → ℕ → List ℕ → Refusal → Type 0 where
  bad_form : {k : Kind} {due : List Kind} {n : ℕ} {bs : List ℕ} → form_of (row k) bs ≡ none → Faults (k ∷ due) n bs (Malformed n)
  bad_value : {k : Kind} {due : List Kind} {n : ℕ} {bs : List ℕ} (ns : List ℤ) (rest : List ℕ) → form_of (row k) bs ≡ some (ns, rest) →
      T (not (in_ranges (row k).ranges ns)) → Faults (k ∷ due) n bs (OutOfRange n)
  more_text : {n b : ℕ} {bs : List ℕ} → Faults [] n (b ∷ bs) (Malformed n)
  further : {k : Kind} {due : List Kind} {n : ℕ} {bs : List ℕ} {why : Refusal} (ns : List ℤ) (rest : List ℕ) → form_of (row k) bs ≡ some (ns, rest) →
      T (in_ranges (row k).ranges ns) → Faults (due_after k ns rest ++ due) (n + 1) rest why → Faults (k ∷ due) n bs why

-- what a reading says of a refusal: it is its fault, or it is due to what comes after
abbrev Outcome : {A : Type 0} → Reading A → (A → ℕ → List ℕ → Refusal → Type 0) → Refusal → Type 0
Outcome (fault w) After why = w ≡ why
Outcome (got a n bs) After why = After a n bs why

-- a reader finds the faults that Before says, but for those of what comes after it
record Finds {A : Type 0} (reader : Reader A) (Before : ℕ → List ℕ → Refusal → Type 0) (After : A → ℕ → List ℕ → Refusal → Type 0) : Type 0 where
  finds : (n : ℕ) (bs : List ℕ) (why : Refusal) → Before n bs why ↔ Outcome (reader n bs) After why

bind_finds : {A B : Type 0} {first : Reader A} {next : A → Reader B} {Before : ℕ → List ℕ → Refusal → Type 0} {Between : A → ℕ → List ℕ → Refusal →
    Type 0} {After : B → ℕ → List ℕ → Refusal → Type 0} → Finds first Before Between → ((a : A) → Finds (next a) (Between a) After) →
    Finds (first >>= next) Before After
unfolding ◌>>=◌
bind_finds {A} {B} {first} {next} {Before} {Between} {After} f g = record { finds = λ n bs why. go n bs why (first n bs) (f.finds n bs why) }
  where
    go : (n : ℕ) (bs : List ℕ) (why : Refusal) (r : Reading A) → Before n bs why ↔ Outcome r Between why → Before n bs why ↔ Outcome (and_then r next) After why
    go n bs why (fault w) h = h
    go n bs why (got a m rest) h = let k = (g a).finds m rest why in (λ x. k.0 (h.0 x), λ y. h.1 (k.1 y))

return_finds : {A : Type 0} (a : A) {Before : ℕ → List ℕ → Refusal → Type 0} → Finds (return a) Before (λ b. Before)
unfolding return
return_finds a = record { finds = λ n bs why. (λ x. x, λ x. x) }

-- the faults of what is due behind a line of a kind that holds these numbers
abbrev Behind : Kind → List Kind → List ℤ → ℕ → List ℕ → Refusal → Type 0
Behind k due ns n bs why = Faults (due_after k ns bs ++ due) n bs why

line_found : {k : Kind} {due : List Kind} {n : ℕ} {bs : List ℕ} {why : Refusal} → Faults (k ∷ due) n bs why →
    Outcome (line_result (row k) n (form_of (row k) bs)) (Behind k due) why
line_found (bad_form e) = rw e refl
line_found {k} (bad_value ns rest e t) = rw (e, fails (in_ranges (row k).ranges ns) t) refl
line_found {k} (further ns rest e t f) = rw (e, holds (in_ranges (row k).ranges ns) t) f

line_finds : (k : Kind) (due : List Kind) → Finds (line (row k)) (Faults (k ∷ due)) (Behind k due)
unfolding line
line_finds k due = record { finds = λ n bs why. (line_found, fault_of n bs why (form_of (row k) bs) refl) }
  where
    fault_of : (n : ℕ) (bs : List ℕ) (why : Refusal) (o : Option (List ℤ × List ℕ)) → form_of (row k) bs ≡ o →
        Outcome (line_result (row k) n o) (Behind k due) why → Faults (k ∷ due) n bs why
    fault_of n bs why none p = λ e. subst (Faults (k ∷ due) n bs) e (bad_form p)
    fault_of n bs why (some r) p = cond_ind (λ (x : Reading (List ℤ)). Outcome x (Behind k due) why →
        Faults (k ∷ due) n bs why) (in_ranges (row k).ranges r.0) (λ t f. further r.0 r.1 p t f)
        (λ t e. subst (Faults (k ∷ due) n bs) e (bad_value r.0 r.1 p t))

-- the axis line, which is due where the text goes on with its key
axis_finds : (a missing : List ℤ) (due : List Kind) → Finds (optional (row axis) missing) (Behind area due a) (λ c. Faults due)
axis_finds a missing due = record { finds = λ n bs why. rw (optional_is (row axis) missing n bs) (go n bs why (starts_with (row axis).key bs)) }
  where
    go : (n : ℕ) (bs : List ℕ) (why : Refusal) (b : Bool) → Faults (cond b (axis ∷ []) [] ++ due) n bs why ↔ Outcome
        (cond b (line (row axis) n bs) (got missing n bs)) (λ c. Faults due) why
    go n bs why true = (line_finds axis due).finds n bs why
    go n bs why false = (λ f. f, λ f. f)

-- lines of a kind that makes no others due
repeated_finds : (k : Kind) → ((ns : List ℤ) (rest : List ℕ) → due_after k ns rest ≡ []) → (count : ℕ) (read : List (List ℤ)) (due : List Kind) →
    Finds (repeated count (line (row k)) read) (Faults (replicate count k ++ due)) (λ all. Faults due)
unfolding repeated
repeated_finds k alone zero read due = return_finds read
repeated_finds k alone (suc count) read due = bind_finds (line_finds k (replicate count k ++ due))
    (λ ns. record { finds = λ n bs why. rw (alone ns bs) ((repeated_finds k alone count (read ++ (ns ∷ [])) due).finds n bs why) })

end_found : {n : ℕ} {why : Refusal} → Faults [] n [] why → ⊥
end_found f = elim f [ ]

more_found : {n b : ℕ} {bs : List ℕ} {why : Refusal} → Faults [] n (b ∷ bs) why → Malformed n ≡ why
more_found more_text = refl

end_finds : Finds end (Faults []) (λ u n bs why. ⊥)
unfolding end
end_finds = record { finds = finds }
  where
    finds : (n : ℕ) (bs : List ℕ) (why : Refusal) → Faults [] n bs why ↔ Outcome (end n bs) (λ u n bs why. ⊥) why
    finds n [] why = (end_found, λ x. absurd x)
    finds n (b ∷ bs) why = (more_found, λ e. subst (Faults [] n (b ∷ bs)) e more_text)

-- the kinds of lines that are due at the top
abbrev pub all_due : List Kind
all_due = area ∷ posts ∷ stops ∷ rounds ∷ []

job_finds : (missing : AxisCosts) (n : ℕ) (bs : List ℕ) (why : Refusal) →
    Faults all_due n bs why ↔ Outcome (job_lines missing n bs) (λ job n bs why. ⊥) why
unfolding job_lines
job_finds missing n bs why =
    (bind_finds (line_finds area (posts ∷ stops ∷ rounds ∷ []))
    (λ r. bind_finds (axis_finds r (axis_numbers missing) (posts ∷ stops ∷ rounds ∷ []))
    (λ c. bind_finds (line_finds posts (stops ∷ rounds ∷ []))
    (λ p. bind_finds (repeated_finds post (λ ns rest. refl) (count_of p) [] (stops ∷ rounds ∷ [])) (λ ps.
    bind_finds (line_finds stops (rounds ∷ [])) (λ q. bind_finds (repeated_finds stop (λ ns rest. refl) (count_of q) [] (rounds ∷ [])) (λ ss.
    bind_finds (line_finds rounds []) (λ z. bind_finds end_finds (λ u. return_finds (job_of r c ps ss z)))))))))).finds n bs why

pub job_faults : (missing : AxisCosts) (n : ℕ) (bs : List ℕ) (why : Refusal) → (job_lines missing n bs ≡ fault why) ↔ Faults all_due n bs why
job_faults missing n bs why = go (job_lines missing n bs) (job_finds missing n bs why)
  where
    go : (r : Reading Job) → Faults all_due n bs why ↔ Outcome r (λ job n bs why. ⊥) why → (r ≡ fault why) ↔ Faults all_due n bs why
    go (fault w) h = (λ e. h.1 cc, λ f. ap fault (h.0 f))
    go (got job m rest) h = (λ e. not_got (sym e), λ f. absurd (h.0 f))

-- ---- the same fault, by the lines before it
-- from a fault behind good lines to the fault of the whole text
from_top : {lines : List (List ℕ)} {rest : List ℕ} {due : List Kind} → Good lines rest due → {why : Refusal} → Faults due (suc (length lines)) rest why →
    Faults all_due 1 (flatten lines ++ rest) why
unfolding flatten
from_top top f = f
from_top (one_more {lines} {rest} {kind} {due} text ns good e t) {why} f =
    let count : suc (length (lines ++ (text ∷ []))) ≡ suc (length lines) + 1 = omega (arith, length-append lines (text ∷ [])) in
    let here : Faults (kind ∷ due) (suc (length lines)) (text ++ rest) why = further ns rest (form_local (row kind) text ns rest e) t (rw count at f) in
    rw (flatten_snoc lines text rest) (from_top good here)

-- and back, the good lines being those that come before the fault
pub first_fault_lem : {lines : List (List ℕ)} {due : List Kind} {n : ℕ} {rest : List ℕ} {why : Refusal} (bytes : List ℕ) → Good lines rest due →
    n ≡ suc (length lines) → bytes ≡ flatten lines ++ rest → Faults due n rest why → TextCondition bytes why
first_fault_lem {lines} bytes good number split (bad_form {k} {due} {n} {bs} e) = malformed (no_form lines bs k due good split number e)
first_fault_lem {lines} bytes good number split (bad_value {k} {due} {n} {bs} ns rest e t) =
    out_of_range (record {
      lines = lines;
      rest = bs;
      after = rest;
      kind = k;
      due = due;
      before = good;
      split = split;
      number = number;
      numbers = ns;
      form = e;
      range = t;
    })
first_fault_lem {lines} bytes good number split (more_text {n} {b} {bs}) =
    malformed (too_much lines (b ∷ bs) good split number (λ e. absurd (let z : ◌≡◌ {A = ℕ} 0 1 = cc in omega arith)))
first_fault_lem {lines} bytes good number split (further {k} {due} {n} {bs} {why} ns rest e t f) =
    let text = ((form_spells (row k)).reads bs ns rest e).0 in
    first_fault_lem {lines = lines ++ (text_of (row k) ns ∷ [])} bytes
    (one_more (text_of (row k) ns) ns (subst (λ (l : List ℕ). Good lines l (k ∷ due)) text good)
    (form_whole (row k) ns (range_fits k ns t)) t)
    (omega (arith, length-append lines (text_of (row k) ns ∷ [])))
    (split ∙ ap (λ (l : List ℕ). flatten lines ++ l) text ∙ sym (flatten_snoc lines (text_of (row k) ns) rest)) f

pub malformed_faults : (bytes : List ℕ) (n : ℕ) → FirstMalformed bytes n → Faults all_due 1 bytes (Malformed n)
malformed_faults bytes n (no_form lines rest k due good split number e) = rw (split, number) (from_top good (bad_form e))
malformed_faults bytes n (too_much lines [] good split number some-text) = absurd (some-text refl)
malformed_faults bytes n (too_much lines (b ∷ rest) good split number some-text) = rw (split, number) (from_top good more_text)

pub range_faults : (bytes : List ℕ) (n : ℕ) → FirstOutOfRange bytes n → Faults all_due 1 bytes (OutOfRange n)
range_faults bytes n o = rw (o.split, o.number) (from_top o.before (bad_value o.numbers o.after o.form o.range))
