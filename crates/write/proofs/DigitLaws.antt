-- Digits: how many there are, by tests of a number's size, and how they are stored from the last one to the first.
use mathlib.Core.Path.{◌≡◌, refl, sym, ap, ◌∙◌}
use mathlib.Core.Logic.{⊎_elim}
use mathlib.Core.List.{List, [], ◌∷◌, ◌++◌}
use Prim.Native.Nat.{ℕ, zero, suc, ◌+◌, ◌/◌, ◌%◌, ◌^◌, ◌≤◌, ◌<◌}
use native.Mathlib.Nat.{pow-suc}
use native.Mathlib.Numerals.{add-one}
use native.Mathlib.Omega.{arith}
use lib.Arith.{le→nltb}
use lib.Dec.{leb, ltb, ltb→lt, lt→ltb, nltb→le}
use lib.ListN.{length, take, drop, set, get_or, length-append, length-set, drop_of_length-le}
use lib.Seq.{take_at, get_or_at, take-suc, drop-cons, take_all, length-take-le}
use mir.Val.{bool_byte}
use Rattle.std.proofs.lemmas.Bool.Decides.{nat_tests}
use Rattle.std.proofs.lemmas.List.{drop-set}
use Rattle.numbers.proofs.Truth.{test, cond-true, cond-false}
use Rattle.text.specs.Decimal.{decimal, spell_nat}
use Rattle.text.proofs.DecimalLaws.{decimal_small, decimal_large}
use Rattle.text.proofs.DigitCounts.{length_one, length_more}
use Rattle.write.specs.Digits.{at_least}

-- ---- how many there are
pub below_is : (n least : ℕ) → n < least → at_least n least ≡ 0
unfolding at_least
below_is n least h = cond-true (ltb n least) _ _ (lt→ltb n least h)

pub from_is : (n least : ℕ) → least ≤ n → at_least n least ≡ 1
unfolding at_least
from_is n least h = cond-false (ltb n least) _ _ (le→nltb n least h)

pub test_is : (n least : ℕ) → bool_byte (leb least n) ≡ at_least n least
unfolding at_least
test_is n least = grind (arith, nat_tests)

pub length_few : (n : ℕ) → n < 100000 → 1 + at_least n 10 + at_least n 100 + at_least n 1000 + at_least n 10000 ≡ length (spell_nat n)
length_few n h = below 10 (λ k. rw (below_is n 10 k, below_is n 100 (omega arith), below_is n 1000 (omega arith), below_is n 10000 (omega arith))
    (omega (arith, length_one n k))) (λ k. below 100 (λ l. rw (from_is n 10 k, below_is n 100 l, below_is n 1000 (omega arith), below_is n 10000 (omega arith))
    (omega (arith, length_more n k (omega arith), length_one (n / 10) (omega arith))))
    (λ l. below 1000 (λ m. rw (from_is n 10 k, from_is n 100 l, below_is n 1000 m, below_is n 10000 (omega arith))
    (omega (arith, length_more n k (omega arith), length_more (n / 10) (omega arith) (omega arith), length_one (n / 10 / 10) (omega arith))))
    (λ m. below 10000 (λ o. rw (from_is n 10 k, from_is n 100 l, from_is n 1000 m, below_is n 10000 o)
    (omega (
      arith,
      length_more n k (omega arith),
      length_more (n / 10) (omega arith) (omega arith),
      length_more (n / 10 / 10) (omega arith) (omega arith),
      length_one (n / 10 / 10 / 10) (omega arith),
    )))
    (λ o. rw (from_is n 10 k, from_is n 100 l, from_is n 1000 m, from_is n 10000 o)
    (omega (
      arith,
      length_more n k (omega arith),
      length_more (n / 10) (omega arith) (omega arith),
      length_more (n / 10 / 10) (omega arith) (omega arith),
      length_more (n / 10 / 10 / 10) (omega arith) (omega arith),
      length_one (n / 10 / 10 / 10 / 10) (omega arith),
    ))))))
  where
    below : {P : Type 0} (k : ℕ) → (n < k → P) → (k ≤ n → P) → P
    below k f g = ⊎_elim (λ t. f (ltb→lt n k t)) (λ t. g (nltb→le n k t)) (test (ltb n k))

-- ---- from the last one to the first
-- the last k digits of n, with leading zeros
pub last_digits : ℕ → ℕ → List ℕ
last_digits zero n = []
last_digits (suc k) n = last_digits k (n / 10) ++ ((48 + n % 10) ∷ [])

last_length : (k n : ℕ) → length (last_digits k n) ≡ k
unfolding last_digits
last_length zero n = refl
last_length (suc k) n = length-append (last_digits k (n / 10)) ((48 + n % 10) ∷ []) ∙ omega (arith, last_length k (n / 10))

last_more : (n : ℕ) (ds : List ℕ) → ds ≡ last_digits (length ds) (n / 10) →
    ds ++ ((48 + n % 10) ∷ []) ≡ last_digits (length (ds ++ ((48 + n % 10) ∷ []))) n
unfolding last_digits
last_more n ds e =
    let l : length (ds ++ ((48 + n % 10) ∷ [])) ≡ suc (length ds) = omega (arith, length-append ds ((48 + n % 10) ∷ [])) in
    ap (λ (front : List ℕ). front ++ ((48 + n % 10) ∷ [])) e ∙ ap (λ (k : ℕ). last_digits k n) (sym l)

last_one : (n : ℕ) → n < 10 → (48 + n) ∷ [] ≡ last_digits 1 n
unfolding last_digits
last_one n h = let e : n % 10 ≡ n = omega arith in rw e

decimal_last : (most n : ℕ) → n < 10 ^ suc most → decimal (suc most) n ≡ last_digits (length (decimal (suc most) n)) n
decimal_last zero n h = rw (decimal_small 0 n h) (last_one n h)
decimal_last (suc most) n h = ⊎_elim (λ t. rw (decimal_small (suc most) n (ltb→lt n 10 t)) (last_one n (ltb→lt n 10 t)))
    (λ t. rw (decimal_large (suc most) n (nltb→le n 10 t))
    (last_more n (decimal (suc most) (n / 10)) (decimal_last most (n / 10) (omega (arith, pow-suc 10 (suc most)))))) (test (ltb n 10))

pub spell_last : (n : ℕ) → n < 10 ^ 20 → spell_nat n ≡ last_digits (length (spell_nat n)) n
unfolding spell_nat
spell_last n h = decimal_last 19 n h

-- the last of some elements, and those before it
split_last : (ds front : List ℕ) (j b : ℕ) → j < length ds → length front ≡ j → take (suc j) ds ≡ front ++ (b ∷ []) → (take j ds ≡ front) × (get_or ds j 0 ≡ b)
split_last ds front j b h l e =
    let both : take j ds ++ (get_or ds j 0 ∷ []) ≡ front ++ (b ∷ []) = sym (take-suc ds j 0 h) ∙ e in
    let k = length-take-le j ds (omega arith) in (
      sym (take_at (take j ds) (get_or ds j 0 ∷ []) j k) ∙ ap (take j) both ∙ take_at front (b ∷ []) j l,
      sym (get_or_at (take j ds) (get_or ds j 0) [] 0 j k) ∙ ap (λ (m : List ℕ). get_or m j 0) both ∙ get_or_at front b [] 0 j l,
    )

-- while they are stored: those from place i on are, and the first i are the last of what is left
pub record Stored (ds out : List ℕ) (rest i : ℕ) : Type 0 where
  pub long : length out ≡ length ds
  pub within : i ≤ length ds
  pub done : drop i out ≡ drop i ds
  pub left : take i ds ≡ last_digits i rest

pub stored_none : (n : ℕ) (out : List ℕ) → n < 10 ^ 20 → length out ≡ length (spell_nat n) → Stored (spell_nat n) out n (length out)
stored_none n out h e = rw e (record {
  long = e;
  within = omega arith;
  done = drop_of_length-le out {i = length (spell_nat n)} (omega arith)
      ∙ sym (drop_of_length-le (spell_nat n) {i = length (spell_nat n)} (omega arith));
  left = take_all (length (spell_nat n)) (spell_nat n) (omega arith) ∙ spell_last n h;
})

module _ {ds out : List ℕ} {rest i : ℕ} (s : Stored ds out rest i) where
  pub stored_more : (j : ℕ) → i ≡ j + 1 → Stored ds (set out j (48 + rest % 10)) (rest / 10) j
  unfolding last_digits
  stored_more j e =
      let w = s.within in
      let l = s.long in
      let digits : take (suc j) ds ≡ last_digits j (rest / 10) ++ ((48 + rest % 10) ∷ []) = rw (e, add-one) at s.left in
      let (front, here) = split_last ds (last_digits j (rest / 10)) j (48 + rest % 10) (omega arith) (last_length j (rest / 10)) digits in
      let next : drop j ds ≡ (48 + rest % 10) ∷ drop i ds = rw (e, add-one, ← here) (drop-cons ds j 0 (omega arith)) in
      record {
        long = simp length-set s.long;
        within = omega arith;
        done = drop-set out j (48 + rest % 10) (omega arith)
            ∙ ap (λ (k : ℕ). (48 + rest % 10) ∷ drop k out) (sym e)
            ∙ ap (λ (l : List ℕ). (48 + rest % 10) ∷ l) s.done ∙ sym next;
        left = front;
      }

  pub stored_all : i ≡ 0 → out ≡ ds
  stored_all e = rw e at s.done
