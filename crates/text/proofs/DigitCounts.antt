-- How a number is spelled: the last digit apart, the sign apart, and how many bytes there are.
use mathlib.Core.Path.{◌≡◌, refl, sym, ap, ◌∙◌}
use mathlib.Core.Bool.{cond, true, false, true≢false}
use mathlib.Core.Logic.{⊎_elim}
use Prim.Native.Nat.{ℕ, zero, suc, ◌+◌, ◌/◌, ◌%◌, ◌^◌, ◌≤◌, ◌<◌}
use native.Mathlib.Omega.{arith}
use native.Mathlib.Nat.{le_of_lt, lt_of_lt_of_le, one-le-pow, pow-suc, pow-le-pow_right}
use mathlib.Core.List.{List, [], ◌∷◌, ◌++◌}
use lib.Dec.{T, lit<, leb, leb→le, nleb→lt, ltb, ltb→lt, nltb→le}
use lib.ListN.{length, length-append}
use lib.IntN.{ℤ, pos, negsuc, nat_abs}
use lib.Signed.{lt_z}
use borrow.Author.Tests.{ltb-true}
use Rattle.numbers.proofs.Truth.{test, cond_ind}
use Rattle.text.specs.Ascii.{minus}
use Rattle.text.specs.Decimal.{decimal, spell_nat, spell_int}
use Rattle.text.proofs.DecimalLaws.{decimal_small, decimal_large}

pub length_decimal : (most n : ℕ) → length (decimal most n) ≤ most
unfolding decimal
length_decimal zero n = omega arith
length_decimal (suc most) n =
    cond_ind (λ (l : List ℕ). length l ≤ suc most) (ltb n 10) (λ t. omega arith)
    (λ t. omega (arith, length-append (decimal most (n / 10)) ((48 + n % 10) ∷ []), length_decimal most (n / 10)))

pub length_decimal_some : (most n : ℕ) → 1 ≤ length (decimal (suc most) n)
length_decimal_some most n = ⊎_elim (λ t. rw (decimal_small most n (ltb→lt n 10 t)) (omega arith))
    (λ t. rw (decimal_large most n (nltb→le n 10 t)) (omega (arith, length-append (decimal most (n / 10)) ((48 + n % 10) ∷ [])))) (test (ltb n 10))

-- a number from 10 ^ k on has more than k digits
pub length_decimal_from : (k most n : ℕ) → 10 ^ k ≤ n → k < most → suc k ≤ length (decimal most n)
length_decimal_from k zero n h m = absurd (omega arith)
length_decimal_from zero (suc most) n h m = length_decimal_some most n
length_decimal_from (suc k) (suc most) n h m =
    let p : 1 ≤ 10 ^ k = one-le-pow k 10 (lit< tt) in
    let tens : 10 ≤ n = omega (arith, pow-suc 10 k) in
    let ih = length_decimal_from k most (n / 10) (omega (arith, pow-suc 10 k)) (omega arith) in
    rw (decimal_large most n tens) (omega (arith, ih, length-append (decimal most (n / 10)) ((48 + n % 10) ∷ [])))

-- a larger number has as many digits or more
pub length_decimal_grows : (most m n : ℕ) → m ≤ n → length (decimal most m) ≤ length (decimal most n)
length_decimal_grows zero m n h = omega (arith, length_decimal 0 m)
length_decimal_grows (suc most) m n h = ⊎_elim small (λ t. large (nltb→le m 10 t) (length_decimal_grows most (m / 10) (n / 10) (omega arith))) (test (ltb m 10))
  where
    small : T (ltb m 10) → length (decimal (suc most) m) ≤ length (decimal (suc most) n)
    small t = rw (decimal_small most m (ltb→lt m 10 t)) (length_decimal_some most n)

    large : 10 ≤ m → length (decimal most (m / 10)) ≤ length (decimal most (n / 10)) → length (decimal (suc most) m) ≤ length (decimal (suc most) n)
    large k ih = rw (decimal_large most m k, decimal_large most n (omega arith))
        (omega (arith, ih, length-append (decimal most (m / 10)) ((48 + m % 10) ∷ []), length-append (decimal most (n / 10)) ((48 + n % 10) ∷ [])))

-- digits for more digits than needed are the digits
pub decimal_enough : (f g n : ℕ) → n < 10 ^ suc f → n < 10 ^ suc g → decimal (suc f) n ≡ decimal (suc g) n
unfolding decimal
decimal_enough zero g n h k = decimal_small 0 n (omega arith) ∙ sym (decimal_small g n (omega arith))
decimal_enough (suc f) zero n h k = decimal_small (suc f) n (omega arith) ∙ sym (decimal_small 0 n (omega arith))
decimal_enough (suc f) (suc g) n h k =
    ap (λ (l : List ℕ). cond (ltb n 10) ((48 + n) ∷ []) (l ++ ((48 + n % 10) ∷ [])))
    (decimal_enough f g (n / 10) (omega (arith, pow-suc 10 (suc f))) (omega (arith, pow-suc 10 (suc g))))

-- ---- numbers of at most 20 digits
pub spell_nat_one : (n : ℕ) → n < 10 → spell_nat n ≡ (48 + n) ∷ []
unfolding spell_nat
spell_nat_one n h = decimal_small 19 n h

pub spell_nat_more : (n : ℕ) → 10 ≤ n → n < 10 ^ 20 → spell_nat n ≡ spell_nat (n / 10) ++ ((48 + n % 10) ∷ [])
unfolding spell_nat
spell_nat_more n h k = decimal_large 19 n h ∙ ap (λ (l : List ℕ). l ++ ((48 + n % 10) ∷ [])) (decimal_enough 18 19 (n / 10) (omega arith) (omega arith))

pub length_one : (n : ℕ) → n < 10 → length (spell_nat n) ≡ 1
length_one n h = ap length (spell_nat_one n h)

pub length_more : (n : ℕ) → 10 ≤ n → n < 10 ^ 20 → length (spell_nat n) ≡ length (spell_nat (n / 10)) + 1
length_more n h k = ap length (spell_nat_more n h k) ∙ length-append (spell_nat (n / 10)) ((48 + n % 10) ∷ [])

-- the digits apart from the last five
pub length_beyond : (n : ℕ) → 100000 ≤ n → n < 10 ^ 20 → length (spell_nat n) ≡ length (spell_nat (n / 100000)) + 5
length_beyond n h k =
    let e : n / 10 / 10 / 10 / 10 / 10 ≡ n / 100000 = omega arith in
    let one = length_more n (omega arith) k in
    let two = length_more (n / 10) (omega arith) (omega arith) in
    let three = length_more (n / 10 / 10) (omega arith) (omega arith) in
    let four = length_more (n / 10 / 10 / 10) (omega arith) (omega arith) in
    let five = length_more (n / 10 / 10 / 10 / 10) (omega arith) (omega arith) in
    rw (← e) (omega (arith, one, two, three, four, five))

pub length_spell_nat : (n : ℕ) → length (spell_nat n) ≤ 20
unfolding spell_nat
length_spell_nat n = length_decimal 20 n

-- a number below 10 ^ k has at most k digits
pub length_spell_nat_below : (k n : ℕ) → n < 10 ^ suc k → length (spell_nat n) ≤ suc k
unfolding spell_nat
length_spell_nat_below k n h = ⊎_elim (λ t. omega (arith, length_spell_nat n, leb→le 20 (suc k) t)) (λ t. few (nleb→lt 20 (suc k) t)) (test (leb 20 (suc k)))
  where
    few : suc k < 20 → length (spell_nat n) ≤ suc k
    few m =
        let p : 10 ^ suc k ≤ 10 ^ 20 = pow-le-pow_right (lit< tt) (le_of_lt m) in
        rw (decimal_enough 19 k n (lt_of_lt_of_le h p) h) (length_decimal (suc k) n)

pub length_spell_nat_grows : (m n : ℕ) → m ≤ n → length (spell_nat m) ≤ length (spell_nat n)
unfolding spell_nat
length_spell_nat_grows m n h = length_decimal_grows 20 m n h

-- ---- numbers with a sign
pub spell_int_non_neg : (z : ℤ) → lt_z z (pos 0) ≡ false → spell_int z ≡ spell_nat (nat_abs z)
unfolding spell_int
spell_int_non_neg (pos n) t = refl
spell_int_non_neg (negsuc n) t = absurd (true≢false t)

pub spell_int_negative : (z : ℤ) → lt_z z (pos 0) ≡ true → spell_int z ≡ minus ∷ spell_nat (nat_abs z)
unfolding spell_int
spell_int_negative (pos n) t = absurd (omega (arith, ltb-true n 0 t))
spell_int_negative (negsuc n) t = refl

pub length_spell_int : (z : ℤ) → length (spell_int z) ≤ 21
unfolding spell_int
length_spell_int (pos n) = omega (arith, length_spell_nat n)
length_spell_int (negsuc n) = omega (arith, length_spell_nat (suc n))

pub length_spell_int_below : (k : ℕ) (z : ℤ) → nat_abs z < 10 ^ suc k → length (spell_int z) ≤ k + 2
unfolding spell_int
length_spell_int_below k (pos n) h = omega (arith, length_spell_nat_below k n h)
length_spell_int_below k (negsuc n) h = omega (arith, length_spell_nat_below k (suc n) h)
