-- A number that a text starts with is read as what it spells, and only its spelling is read so.
use mathlib.Core.Path.{◌≡◌, refl, ap, subst, ◌∙◌}
use mathlib.Core.Bool.{Bool, true, false, not, cond, ◌&&◌, ◌||◌}
use mathlib.Core.Logic.{◌≢◌, ◌↔◌}
use mathlib.Core.List.{List, [], ◌∷◌, ◌++◌, append-nil}
use mathlib.Core.Option.{Option, none, some, none-ne-some}
use Prim.Native.Nat.{ℕ, zero, suc, ◌^◌, ◌≤◌, ◌<◌}
use native.Mathlib.Omega.{arith}
use lib.Dec.{T, T_not, not_T, leb, eqb, leb→le, le→leb, eqb→eq, eqb-suc-zero}
use lib.IntN.{ℤ, pos, negsuc, neg_ℤ, nat_abs}
use lib.ListN.{length, get_or, drop, length-append}
use lib.Seq.{drop-append_seam}
use Rattle.numbers.proofs.Truth.{and_left, and_right, and_fails_left, holds, cond_ind, cond-false}
use Rattle.text.specs.Numeral.{digits, value_of, is_natural, natural, negative, number}
use Rattle.text.specs.Decimal.{spell_nat, spell_int}
use Rattle.text.specs.DecimalRows.{DigitsOf}
use Rattle.text.proofs.DecimalLaws.{decimal_all, decimal_digits, digits_append, digits_first, digits_rest, digits_twice, decimal_value}
use Rattle.text.proofs.DecimalLaws.{value_less}
use Rattle.text.proofs.DigitCounts.{length_decimal_from, length_spell_nat_below}

-- ---- the form of a number that is not negative
natural_tests : (a b c d : Bool) → T (a && b && (c || not d)) ↔ (T a × T b × (T d → T c))
natural_tests true true true d = (λ t. (tt, tt, λ u. tt), λ r. tt)
natural_tests true true false true = (λ t. absurd t, λ r. r.2 tt)
natural_tests true true false false = (λ t. (tt, tt, λ u. u), λ r. tt)
natural_tests true false c d = (λ t. absurd t, λ r. r.1)
natural_tests false b c d = (λ t. absurd t, λ r. r.0)

natural_form : (ds : List ℕ) → T (is_natural ds) → (1 ≤ length ds) × (length ds ≤ 9) × (get_or ds 0 0 ≡ 48 → length ds ≡ 1)
unfolding is_natural
natural_form ds t =
    let (some_digit, short, first) = (natural_tests (leb 1 (length ds)) (leb (length ds) 9) (eqb (length ds) 1) (eqb (get_or ds 0 0) 48)).0 t in
    (leb→le _ _ some_digit, leb→le _ _ short, λ e. eqb→eq _ _ (first (rw e tt)))

form_natural : (ds : List ℕ) → 1 ≤ length ds → length ds ≤ 9 → (get_or ds 0 0 ≡ 48 → length ds ≡ 1) → T (is_natural ds)
unfolding is_natural
form_natural ds h k first = (natural_tests (leb 1 (length ds)) (leb (length ds) 9) (eqb (length ds) 1) (eqb (get_or ds 0 0) 48)).1 (
  le→leb _ _ h,
  le→leb _ _ k,
  λ t. rw (first (eqb→eq _ _ t)) tt,
)

-- ---- what a text starts with
-- the number z, up to where no more digits follow
pub record Starts (bs : List ℕ) (z : ℤ) (rest : List ℕ) : Type 0 where
  pub text : bs ≡ spell_int z ++ rest
  pub small : nat_abs z < 10 ^ 9
  pub stops : digits rest ≡ []

natural_starts : (bs : List ℕ) → T (is_natural (digits bs)) → Starts bs (pos (value_of (digits bs))) (drop (length (digits bs)) bs)
unfolding spell_int spell_nat
natural_starts bs t =
    let (some_digit, short, first) = natural_form (digits bs) t in
    record {
      text = rw (decimal_value (digits bs) (digits_twice bs) some_digit (omega arith) first) (digits_first bs);
      small = value_less (digits bs) 9 (digits_twice bs) short;
      stops = digits_rest bs;
    }

-- what reading finds where a text starts with n
record Found (bs : List ℕ) (n : ℕ) (rest : List ℕ) : Type 0 where
  form : T (is_natural (digits bs))
  value : value_of (digits bs) ≡ n
  after : drop (length (digits bs)) bs ≡ rest

spelled_form : (n : ℕ) → n < 10 ^ 9 → DigitsOf n (spell_nat n) → T (is_natural (spell_nat n))
spelled_form n h s = form_natural (spell_nat n) s.some_digit (length_spell_nat_below 8 n h) (first n s)
  where
    first : (n : ℕ) → DigitsOf n (spell_nat n) → get_or (spell_nat n) 0 0 ≡ 48 → length (spell_nat n) ≡ 1
    first zero s e = omega (arith, s.some_digit, length_spell_nat_below 0 0 (omega arith))
    first (suc n) s e = absurd (s.first_digit (omega arith) e)

spelled_found : (n : ℕ) (rest : List ℕ) → n < 10 ^ 9 → digits rest ≡ [] → Found (spell_nat n ++ rest) n rest
unfolding spell_nat
spelled_found n rest h e =
    let w : DigitsOf n (spell_nat n) = decimal_digits 19 n (omega arith) in
    let found : digits (spell_nat n ++ rest) ≡ spell_nat n = digits_append (spell_nat n) rest w.all_digits ∙ rw e (append-nil (spell_nat n)) in
    record { form = rw found (spelled_form n h w); value = rw found w.value; after = rw found (drop-append_seam (spell_nat n) rest) }

minus_starts : (bs : List ℕ) (n : ℕ) (rest : List ℕ) → n ≢ 0 → Starts bs (pos n) rest → Starts (45 ∷ bs) (neg_ℤ (pos n)) rest
unfolding spell_int
minus_starts bs zero rest apart s = absurd (apart refl)
minus_starts bs (suc n) rest apart s = record { text = ap (λ (l : List ℕ). 45 ∷ l) s.text; small = s.small; stops = s.stops }

-- ---- reading
cond_some : {A : Type 0} (b : Bool) {x y : A} → cond b (some x) none ≡ some y → T b × (x ≡ y)
cond_some true e = (tt, cc)
cond_some false e = absurd (let z : ◌≡◌ {A = ℕ} 0 1 = cc in omega arith)

natural_reads : (bs : List ℕ) (z : ℤ) (rest : List ℕ) → natural bs ≡ some (z, rest) → Starts bs z rest
unfolding natural
natural_reads bs z rest e = let (t, p) = cond_some (is_natural (digits bs)) e in subst (λ (r : ℤ × List ℕ). Starts bs r.0 r.1) p (natural_starts bs t)

negative_reads : (bs : List ℕ) (z : ℤ) (rest : List ℕ) → negative bs ≡ some (z, rest) → Starts (45 ∷ bs) z rest
unfolding negative
negative_reads bs z rest e =
    let (t, p) = cond_some (is_natural (digits bs) && not (eqb (value_of (digits bs)) 0)) e in
    subst (λ (r : ℤ × List ℕ). Starts (45 ∷ bs) r.0 r.1) p
    (minus_starts bs (value_of (digits bs)) _ (apart (value_of (digits bs)) (and_right (is_natural (digits bs)) (not (eqb (value_of (digits bs)) 0)) t))
    (natural_starts bs (and_left (is_natural (digits bs)) (not (eqb (value_of (digits bs)) 0)) t)))
  where
    apart : (n : ℕ) → T (not (eqb n 0)) → n ≢ 0
    apart n t e = T_not (eqb n 0) t (rw e tt)

pub number_reads : (bs : List ℕ) (z : ℤ) (rest : List ℕ) → number bs ≡ some (z, rest) → Starts bs z rest
unfolding number
number_reads [] z rest = λ e. absurd (none-ne-some (z, rest) e)
number_reads (b ∷ bs) z rest = cond_ind (λ (r : Option (ℤ × List ℕ)). r ≡ some (z, rest) →
    Starts (b ∷ bs) z rest) (eqb b 45) (λ t e. rw (eqb→eq b 45 t) (negative_reads bs z rest e)) (λ t e. natural_reads (b ∷ bs) z rest e)

pub natural_spelled : (n : ℕ) (rest : List ℕ) → n < 10 ^ 9 → digits rest ≡ [] → natural (spell_nat n ++ rest) ≡ some (pos n, rest)
unfolding natural
natural_spelled n rest h e = let f = spelled_found n rest h e in rw (holds (is_natural (digits (spell_nat n ++ rest))) f.form, f.value, f.after)

-- where digits come first, no `-` does
number_natural : (bs : List ℕ) → T (is_natural (digits bs)) → number bs ≡ natural bs
unfolding number is_natural digits
number_natural [] t = absurd t
number_natural (b ∷ bs) t = cond-false (eqb b 45) _ _ (not_T (eqb b 45) (λ u. subst (λ (c : ℕ). T (is_natural (digits (c ∷ bs)))) (eqb→eq b 45 u) t))

pub number_spelled : (z : ℤ) (rest : List ℕ) → nat_abs z < 10 ^ 9 → digits rest ≡ [] → number (spell_int z ++ rest) ≡ some (z, rest)
unfolding number spell_int
number_spelled (pos n) rest h e = number_natural (spell_nat n ++ rest) (spelled_found n rest h e).form ∙ natural_spelled n rest h e
number_spelled (negsuc n) rest h e = let f = spelled_found (suc n) rest h e in
    rw (holds (is_natural (digits (spell_nat (suc n) ++ rest))) f.form, f.value, f.after, eqb-suc-zero n)

-- ---- a number of ten digits or more
natural_long : (bs : List ℕ) → 10 ≤ length (digits bs) → T (not (is_natural (digits bs)))
natural_long bs h = not_T (is_natural (digits bs)) (λ t. let (some_digit, short, first) = natural_form (digits bs) t in omega arith)

number_long : (bs : List ℕ) → 10 ≤ length (digits bs) → number bs ≡ none
unfolding number natural digits
number_long [] h = refl
number_long (b ∷ bs) h =
    cond-false (eqb b 45) _ _ (not_T (eqb b 45) (λ u. let k = subst (λ (c : ℕ). 10 ≤ length (digits (c ∷ bs))) (eqb→eq b 45 u) h in omega arith))
    ∙ cond-false (is_natural (digits (b ∷ bs))) _ _ (natural_long (b ∷ bs) h)

digits_long : (n : ℕ) (rest : List ℕ) → 10 ^ 9 ≤ n → 10 ≤ length (digits (spell_nat n ++ rest))
unfolding spell_nat
digits_long n rest h = rw (digits_append (spell_nat n) rest (decimal_all 20 n))
    (omega (arith, length-append (spell_nat n) (digits rest), length_decimal_from 9 20 n h (omega arith)))

pub number_too_long : (z : ℤ) (rest : List ℕ) → 10 ^ 9 ≤ nat_abs z → number (spell_int z ++ rest) ≡ none
unfolding number spell_int negative
number_too_long (pos n) rest h = number_long (spell_nat n ++ rest) (digits_long n rest h)
number_too_long (negsuc n) rest h =
    cond-false (is_natural (digits (spell_nat (suc n) ++ rest)) && not (eqb (value_of (digits (spell_nat (suc n) ++ rest))) 0)) _ _
    (and_fails_left (is_natural (digits (spell_nat (suc n) ++ rest))) _ (natural_long (spell_nat (suc n) ++ rest) (digits_long (suc n) rest h)))
