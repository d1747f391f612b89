-- Decimal digits: how a number is spelled, and which digits spell which number. A text does not start with a digit where `digits` finds none.
use mathlib.Core.Path.{◌≡◌, refl, ap, ◌∙◌}
use mathlib.Core.Logic.{⊎_elim, ◌≢◌}
use mathlib.Core.List.{List, [], ◌∷◌, ◌++◌, append-nil, foldl, foldl-append}
use Prim.Native.Nat.{ℕ, zero, suc, ◌+◌, ◌-◌, ◌*◌, ◌/◌, ◌%◌, ◌^◌, ◌≤◌, ◌<◌}
use native.Mathlib.Nat.{add-zero, pow-zero, pow-suc, pow-le-pow_right, mul-le-mul_right}
use native.Mathlib.Omega.{arith}
use lib.Dec.{T, leb, ltb, leb→le, le→leb, lt→ltb, ltb→lt, nltb→le, lit≤}
use lib.Arith.{le→nltb}
use lib.Seq.{append_snoc}
use lib.ListN.{length, length-append, get_or, drop, get_or-append}
use Rattle.numbers.proofs.Truth.{test, and_left, and_right, and_intro, cond_ind, cond-true, cond-false}
use Rattle.text.specs.Ascii.{is_digit}
use Rattle.text.specs.Numeral.{digits, value_of}
use Rattle.text.specs.Decimal.{decimal}
use Rattle.text.specs.DecimalRows.{DigitsOf}

-- ---- the digits that a text starts with
pub digit_range : (b : ℕ) → T (is_digit b) → (48 ≤ b) × (b ≤ 57)
unfolding is_digit
digit_range b t = (leb→le 48 b (and_left (leb 48 b) (leb b 57) t), leb→le b 57 (and_right (leb 48 b) (leb b 57) t))

pub range_digit : (b : ℕ) → 48 ≤ b → b ≤ 57 → T (is_digit b)
unfolding is_digit
range_digit b h k = and_intro (leb 48 b) (leb b 57) (le→leb 48 b h) (le→leb b 57 k)

pub digits_cons : (b : ℕ) (bs : List ℕ) → T (is_digit b) → digits (b ∷ bs) ≡ b ∷ digits bs
unfolding digits
digits_cons b bs t = cond-true (is_digit b) _ _ t

-- a text that is all digits
pub digits_parts : (b : ℕ) (bs : List ℕ) → digits (b ∷ bs) ≡ b ∷ bs → T (is_digit b) × (digits bs ≡ bs)
unfolding digits
digits_parts b bs = cond_ind (λ (ds : List ℕ). ds ≡ b ∷ bs →
    T (is_digit b) × (digits bs ≡ bs)) (is_digit b) (λ t e. (t, cc)) (λ t e. absurd (let z : ◌≡◌ {A = ℕ} 0 1 = cc in omega arith))

pub digits_append : (ds rest : List ℕ) → digits ds ≡ ds → digits (ds ++ rest) ≡ ds ++ digits rest
digits_append [] rest e = refl
digits_append (d ∷ ds) rest e = let (t, f) = digits_parts d ds e in digits_cons d (ds ++ rest) t ∙ ap (λ (l : List ℕ). d ∷ l) (digits_append ds rest f)

pub digits_first : (bs : List ℕ) → bs ≡ digits bs ++ drop (length (digits bs)) bs
unfolding digits
digits_first [] = refl
digits_first (b ∷ bs) = cond_ind (λ (ds : List ℕ). b ∷ bs ≡ ds ++ drop (length ds) (b ∷ bs)) (is_digit b) (λ t. ap (λ (l : List ℕ). b ∷ l) (digits_first bs))
    (λ t. refl)

pub digits_rest : (bs : List ℕ) → digits (drop (length (digits bs)) bs) ≡ []
unfolding digits
digits_rest [] = refl
digits_rest (b ∷ bs) =
    cond_ind (λ (ds : List ℕ). digits (drop (length ds) (b ∷ bs)) ≡ []) (is_digit b) (λ t. digits_rest bs) (λ t. cond-false (is_digit b) _ _ t)

pub digits_twice : (bs : List ℕ) → digits (digits bs) ≡ digits bs
unfolding digits
digits_twice [] = refl
digits_twice (b ∷ bs) = cond_ind (λ (ds : List ℕ). digits ds ≡ ds) (is_digit b) (λ t. digits_cons b (digits bs) t
    ∙ ap (λ (l : List ℕ). b ∷ l) (digits_twice bs)) (λ t. refl)

-- ---- a number's digits
pub decimal_small : (most n : ℕ) → n < 10 → decimal (suc most) n ≡ (48 + n) ∷ []
unfolding decimal
decimal_small most n h = cond-true (ltb n 10) _ _ (lt→ltb n 10 h)

pub decimal_large : (most n : ℕ) → 10 ≤ n → decimal (suc most) n ≡ decimal most (n / 10) ++ ((48 + n % 10) ∷ [])
unfolding decimal
decimal_large most n h = cond-false (ltb n 10) _ _ (le→nltb n 10 h)

-- they are all digits
pub decimal_all : (most n : ℕ) → digits (decimal most n) ≡ decimal most n
unfolding digits decimal
decimal_all zero n = refl
decimal_all (suc most) n = ⊎_elim
    (λ t. let h : n < 10 = ltb→lt n 10 t in rw (decimal_small most n h) (digits_cons (48 + n) [] (range_digit (48 + n) (omega arith) (omega arith))))
    (λ t. rw (decimal_large most n (nltb→le n 10 t)) (digits_append (decimal most (n / 10)) _ (decimal_all most (n / 10))
    ∙ ap (λ (l : List ℕ). decimal most (n / 10) ++ l) (digits_cons (48 + n % 10) [] (range_digit (48 + n % 10) (omega arith) (omega arith)))))
    (test (ltb n 10))

-- the number that digits spell behind those of v
abbrev onwards : ℕ → List ℕ → ℕ
onwards v ds = foldl (λ value d. value * 10 + (d - 48)) v ds

-- the digits of a number
one_digit : (n : ℕ) → n < 10 → DigitsOf n ((48 + n) ∷ [])
unfolding value_of digits
one_digit n h = record {
  all_digits = digits_cons (48 + n) [] (range_digit (48 + n) (omega arith) (omega arith));
  value = omega arith;
  some_digit = omega arith;
  first_digit = λ k. omega arith;
}

one_more : (n : ℕ) (ds : List ℕ) → 10 ≤ n → DigitsOf (n / 10) ds → DigitsOf n (ds ++ ((48 + n % 10) ∷ []))
unfolding value_of digits
one_more n ds h s = record {
  all_digits = digits_append ds _ s.all_digits ∙ ap (λ (l : List ℕ). ds ++ l)
      (digits_cons (48 + n % 10) [] (range_digit (48 + n % 10) (omega arith) (omega arith)));
  value = rw foldl-append (omega (arith, s.value));
  some_digit = simp length-append (omega arith);
  first_digit = λ k. rw (get_or-append ds _ 0 0 s.some_digit) (s.first_digit (omega arith));
}

pub decimal_digits : (most n : ℕ) → n < 10 ^ suc most → DigitsOf n (decimal (suc most) n)
decimal_digits zero n h = rw (decimal_small 0 n h) (one_digit n h)
decimal_digits (suc most) n h = ⊎_elim (λ t. let k : n < 10 = ltb→lt n 10 t in rw (decimal_small (suc most) n k) (one_digit n k)) (λ t. let k : 10 ≤ n =
    nltb→le n 10 t in rw (decimal_large (suc most) n k) (one_more n _ k (decimal_digits most (n / 10) (omega (arith, pow-suc 10 (suc most))))))
    (test (ltb n 10))

-- ---- the number of some digits
-- the digits of v and, behind them, ds
decimal_onwards : (ds : List ℕ) (most v : ℕ) → digits ds ≡ ds → 1 ≤ v → decimal (most + length ds) (onwards v ds) ≡ decimal most v ++ ds
decimal_onwards [] most v e h = simp (add-zero, append-nil)
decimal_onwards (d ∷ ds) most v e h =
    let (t, f) = digits_parts d ds e in
    let (low, high) = digit_range d t in
    let tens : (v * 10 + (d - 48)) / 10 ≡ v = omega arith in
    let ones : 48 + (v * 10 + (d - 48)) % 10 ≡ d = omega arith in
    let fuel : most + suc (length ds) ≡ suc most + length ds = omega arith in
    rw (
      fuel,
      decimal_onwards ds (suc most) (v * 10 + (d - 48)) f (omega arith),
      decimal_large most (v * 10 + (d - 48)) (omega arith),
      tens,
      ones,
    ) (append_snoc (decimal most v) d ds)

alone : (most d : ℕ) → 48 ≤ d → d ≤ 57 → decimal (suc most) (0 + (d - 48)) ≡ d ∷ []
alone most d low high = let e : 48 + (0 + (d - 48)) ≡ d = omega arith in decimal_small most (0 + (d - 48)) (omega arith) ∙ ap (λ (b : ℕ). b ∷ []) e

-- digits of which the first is a zero only where it is alone are the digits of their number
pub decimal_value : (ds : List ℕ) → digits ds ≡ ds → 1 ≤ length ds → length ds ≤ 20 → (get_or ds 0 0 ≡ 48 → length ds ≡ 1) → decimal 20 (value_of ds) ≡ ds
unfolding value_of
decimal_value [] e some_digit short first = absurd (omega arith)
decimal_value (d ∷ []) e some_digit short first = let (low, high) = digit_range d (digits_parts d [] e).0 in alone 19 d low high
decimal_value (d ∷ c ∷ ds) e some_digit short first =
    let (t, f) = digits_parts d (c ∷ ds) e in
    let (low, high) = digit_range d t in
    let apart : d ≢ 48 = λ q. omega (arith, first q) in
    let fuel : 20 ≡ suc (18 - length ds) + suc (length ds) = omega arith in
    ap (λ (most : ℕ). decimal most (onwards (0 + (d - 48)) (c ∷ ds))) fuel ∙ decimal_onwards (c ∷ ds) (suc (18 - length ds)) (0 + (d - 48)) f (omega arith)
    ∙ ap (λ (l : List ℕ). l ++ (c ∷ ds)) (alone (18 - length ds) d low high)

-- so many digits spell a number of at most so many
value_onwards : (ds : List ℕ) (v : ℕ) → digits ds ≡ ds → onwards v ds < (v + 1) * 10 ^ length ds
value_onwards [] v e = rw pow-zero (omega arith)
value_onwards (d ∷ ds) v e = let (t, f) = digits_parts d ds e in
    rw (pow-suc 10 (length ds)) (more (d - 48) (10 ^ length ds) (onwards (v * 10 + (d - 48)) ds) (omega (arith, digit_range d t))
    (value_onwards ds (v * 10 + (d - 48)) f))
  where
    more : (c p x : ℕ) → c ≤ 9 → x < (v * 10 + c + 1) * p → x < (v + 1) * (p * 10)
    more c p x h k = let l : v * 10 + c + 1 ≤ (v + 1) * 10 = omega arith in omega (arith, mul-le-mul_right p l)

pub value_less : (ds : List ℕ) (k : ℕ) → digits ds ≡ ds → length ds ≤ k → value_of ds < 10 ^ k
unfolding value_of
value_less ds k e h = omega (arith, value_onwards ds 0 e, pow-le-pow_right (lit≤ {m = 1} {n = 10} tt) h)
