-- The text of a report and of a refusal in parts, as the functions write them, and the lengths of the parts.
use mathlib.Core.Path.{◌≡◌, refl, sym, ap, ◌∙◌}
use Prim.Native.Nat.{ℕ, ◌+◌, ◌≤◌, ◌<◌, ◌^◌}
use native.Mathlib.Omega.{arith}
use mathlib.Core.Logic.{◌⊎◌, inl, inr}
use mathlib.Core.List.{List, [], ◌∷◌, ◌++◌, flatten, append_assoc, append-nil}
use mathlib.Core.Option.{Option, none, some}
use lib.ListN.{length, length-append, get_or, drop}
use lib.IntN.{ℤ, pos, negsuc, nat_abs}
use lib.Signed.{◌≤ℤ◌}
use Rattle.numbers.proofs.Integer.{order}
use Rattle.query.specs.Figures.{Figures, State, done, stopped}
use Rattle.query.specs.Range.{coordinate_limit, rounds_limit, cost_limit}
use Rattle.text.specs.Ascii.{bytes, comma}
use Rattle.text.specs.Decimal.{spell_nat, spell_int}
use Rattle.text.specs.Numeral.{digits, natural}
use Rattle.write.specs.declared.Writer.{Writer}
use Rattle.write.specs.Written.{Wrote}
use Rattle.text.proofs.NumeralLaws.{natural_spelled}
use Rattle.text.proofs.DigitCounts.{length_spell_nat, length_spell_nat_below, length_spell_int_below}
use Rattle.write.proofs.WrittenLaws.{wrote_both}
use Rattle.refusal.specs.Refusal.{number_of, line_of}
use Rattle.refusal.specs.declared.Refusal.{Refusal}
use Rattle.refusal.proofs.Numbers.{number_most, one_digit}
use Rattle.report.specs.Text.{state_text, report_text, refusal_text}

-- ---- the parts
abbrev pub state_part : State → List ℕ
state_part s = bytes "state=" ++ state_text s

abbrev pub place_part : ℤ → ℤ → List ℕ
place_part x y = bytes "\nat=" ++ spell_int x ++ (comma ∷ []) ++ spell_int y

abbrev pub costs_part : ℕ → ℤ → ℕ → List ℕ
costs_part high low before = bytes "\nhigh=" ++ spell_nat high ++ bytes "\nlow=" ++ spell_int low ++ bytes "\nbefore=" ++ spell_nat before

abbrev pub rounds_part : ℕ → List ℕ
rounds_part n = bytes "\nrounds=" ++ spell_nat n

join_report :
    (a b c d e f g h i j k l m n o : List ℕ) →
    flatten (a ∷ b ∷ c ∷ d ∷ e ∷ f ∷ g ∷ h ∷ i ∷ j ∷ k ∷ l ∷ m ∷ n ∷ o ∷ []) ≡ (a ++ b) ++ (c ++ d ++ e ++ f) ++ (g ++ h ++ i ++ j ++ k ++ l) ++ (m ++ n) ++ o
unfolding flatten
join_report a b c d e f g h i j k l m n o = simp (append_assoc, append-nil)

pub report_parts : (f : Figures) → report_text f ≡ state_part f.state ++ place_part f.at.x f.at.y ++ costs_part f.high f.low f.before ++
    rounds_part f.rounds ++ bytes "\n"
unfolding report_text
report_parts f =
    join_report (bytes "state=") (state_text f.state) (bytes "\nat=") (spell_int f.at.x) (comma ∷ []) (spell_int f.at.y) (bytes "\nhigh=")
    (spell_nat f.high)
    (bytes "\nlow=") (spell_int f.low) (bytes "\nbefore=") (spell_nat f.before) (bytes "\nrounds=") (spell_nat f.rounds) (bytes "\n")

join_refusal : (a b c d e : List ℕ) → flatten (a ∷ b ∷ c ∷ d ∷ e ∷ []) ≡ (a ++ b) ++ (c ++ d) ++ e
unfolding flatten
join_refusal a b c d e = simp (append_assoc, append-nil)

pub refusal_parts : (number line : ℕ) → refusal_text number line ≡ (bytes "refused=" ++ spell_nat number) ++ (bytes "\nline=" ++ spell_nat line) ++ bytes "\n"
unfolding refusal_text
refusal_parts number line = join_refusal (bytes "refused=") (spell_nat number) (bytes "\nline=") (spell_nat line) (bytes "\n")

-- a report and a refusal start with other letters, and a refusal's text tells its number
pub report_no_refusal : (f : Figures) (number line : ℕ) → report_text f ≡ refusal_text number line → ⊥
unfolding report_text refusal_text
report_no_refusal f number line e = let z : ◌≡◌ {A = ℕ} 115 114 = ap (λ (text : List ℕ). get_or text 0 0) e in omega arith

refusal_behind : (number line : ℕ) → drop 8 (refusal_text number line) ≡ spell_nat number ++ flatten (bytes "\nline=" ∷ spell_nat line ∷ bytes "\n" ∷ [])
unfolding refusal_text
refusal_behind number line = refl

number_read : (number line : ℕ) → number < 10 ^ 9 → natural (drop 8 (refusal_text number line)) ≡ some (
  pos number,
  flatten (bytes "\nline=" ∷ spell_nat line ∷ bytes "\n" ∷ []),
)
unfolding flatten bytes digits
number_read number line h = ap natural (refusal_behind number line) ∙ natural_spelled number _ h refl

abbrev number_in : Option (ℤ × List ℕ) → ℤ
number_in none = pos 0
number_in (some r) = r.0

pub refusal_number : (number line number' line' : ℕ) → number < 10 ^ 9 → number' < 10 ^ 9 → refusal_text number line ≡ refusal_text number' line' →
    number ≡ number'
refusal_number number line number' line' h h' e = ap nat_abs
    (ap number_in (sym (number_read number line h) ∙ ap (λ (text : List ℕ). natural (drop 8 text)) e ∙ number_read number' line' h'))

-- ---- their lengths
pub length_five : (a b c d e : List ℕ) → length (a ++ b ++ c ++ d ++ e) ≡ length a + length b + length c + length d + length e
length_five a b c d e = simp length-append

pub length_state : (s : State) → length (state_part s) ≤ 13
unfolding bytes
length_state done = omega arith
length_state stopped = omega arith

pub length_place : (x y : ℤ) → nat_abs x ≤ coordinate_limit → nat_abs y ≤ coordinate_limit → length (place_part x y) ≤ 17
unfolding bytes
length_place x y h k = simp length-append (omega (arith, length_spell_int_below 4 x (omega arith), length_spell_int_below 4 y (omega arith)))

length_low : (low : ℤ) → pos 0 ≤ℤ low → low ≤ℤ pos cost_limit → length (spell_int low) ≤ 14
unfolding spell_int
length_low (pos n) g h = length_spell_nat_below 13 n (omega (arith, order))
length_low (negsuc n) g h = absurd (omega (arith, order))

pub length_costs : (high : ℕ) (low : ℤ) (before : ℕ) → high ≤ cost_limit → pos 0 ≤ℤ low → low ≤ℤ pos cost_limit → before ≤ cost_limit
    → length (costs_part high low before) ≤ 61
unfolding bytes
length_costs high low before h g k l =
    simp length-append (omega (
      arith,
      length_spell_nat_below 13 high (omega arith),
      length_low low g k,
      length_spell_nat_below 13 before (omega arith),
    ))

pub length_rounds : (n : ℕ) → n ≤ rounds_limit → length (rounds_part n) ≤ 12
unfolding bytes
length_rounds n h = simp length-append (omega (arith, length_spell_nat_below 3 n (omega arith)))

-- a refusal's number and line: at most 21 digits, since a number of two has line 0
pub length_refusal : (why : Refusal) → length (spell_nat (number_of why)) + length (spell_nat (line_of why)) ≤ 21
length_refusal why = go (number_of why) (line_of why) (number_most why) (one_digit why)
  where
    go : (n l : ℕ) → n ≤ 10 → (n ≤ 9) ⊎ (l ≡ 0) → length (spell_nat n) + length (spell_nat l) ≤ 21
    go n l h (inl s) = omega (arith, length_spell_nat_below 0 n (omega arith), length_spell_nat l)
    go n l h (inr z) = omega (arith, length_spell_nat_below 1 n (omega arith), length_spell_nat_below 0 l (omega arith))

-- ---- a text written part by part
pub report_wrote :
    {w₀ w₁ w₂ w₃ w₄ w₅ : Writer} (f : Figures) →
    Wrote w₀ (state_part f.state) w₁ →
    Wrote w₁ (place_part f.at.x f.at.y) w₂ →
    Wrote w₂ (costs_part f.high f.low f.before) w₃ →
    Wrote w₃ (rounds_part f.rounds) w₄ →
    Wrote w₄ (bytes "\n") w₅ →
    Wrote w₀ (report_text f) w₅
report_wrote f s p c r n = rw report_parts (wrote_both (wrote_both (wrote_both (wrote_both s p) c) r) n)

pub refusal_wrote :
    {w₀ w₁ w₂ w₃ : Writer} {number line : ℕ} (n l : ℕ) →
    n ≡ number →
    l ≡ line →
    Wrote w₀ (bytes "refused=" ++ spell_nat n) w₁ →
    Wrote w₁ (bytes "\nline=" ++ spell_nat l) w₂ →
    Wrote w₂ (bytes "\n") w₃ →
    Wrote w₀ (refusal_text number line) w₃
refusal_wrote n l p q v w e = rw (refusal_parts, ← p, ← q) (wrote_both (wrote_both v w) e)
