-- The digits that a text starts with, read one by one.
use mathlib.Core.Path.{◌≡◌, refl, sym, ap, subst, ◌∙◌}
use mathlib.Core.Bool.{Bool, true, false, not, cond, ◌||◌}
use mathlib.Core.List.{List, [], ◌∷◌, ◌++◌, foldl-append}
use mathlib.Core.Option as Text
use mathlib.Core.Option.{none, some}
use Prim.Native.Nat.{ℕ, suc, ◌+◌, ◌-◌, ◌*◌, ◌^◌, ◌≤◌, ◌<◌}
use native.Mathlib.Nat.{add-zero, pow-suc, pow-le-pow_right}
use native.Mathlib.Numerals.{add-one}
use native.Mathlib.Omega.{arith}
use borrow.Author.Tests.{lt-leb, le-leb, eq-eqb, ne_eqb}
use lib.Dec.{T, eqb, leb, leb→le, lit<}
use lib.IntN.{ℤ, pos}
use lib.ListN.{length, get_or, drop, take, length-drop}
use lib.Seq.{drop-drop, take-suc, get_or-drop, take_all}
use Rattle.std.specs.Prelude.{Option, Some, None}
use Rattle.std.specs.Borrow.{Bor}
use Rattle.numbers.proofs.Truth.{cond_ind, cond-true, and_right}
use Rattle.text.specs.Ascii.{is_digit, zero_digit}
use Rattle.text.specs.Numeral.{digits, value_of, natural}
use Rattle.text.specs.TextReading.{starts_with, first_digit, FirstDigit, FirstDigits}
use Rattle.text.proofs.KeyLaws.{starts_byte}

-- ---- one digit
pub digit_past : (bs : List ℕ) → length bs ≡ 0 → FirstDigit bs None
unfolding first_digit
digit_past [] e = record { is = refl }
digit_past (b ∷ bs) e = absurd (omega arith)

pub digit_found : {bs : List ℕ} {b : ℕ} {rest : Bor (List ℕ)} → bs ≡ b ∷ rest.now → is_digit b ≡ true → FirstDigit bs (Some (b - 48, rest))
unfolding first_digit
digit_found e t = record { is = rw (e, t) refl }

pub digit_other : {bs : List ℕ} {b : ℕ} {rest : List ℕ} → bs ≡ b ∷ rest → is_digit b ≡ false → FirstDigit bs None
unfolding first_digit
digit_other e t = record { is = rw (e, t) refl }

abbrev read : ℕ → List ℕ → Option (ℕ × List ℕ)
read d rest = Some (d, rest)

-- a text that starts with a digit
record Digit (bs : List ℕ) (d : ℕ) (rest : List ℕ) : Type 0 where
  first : ℕ
  is : bs ≡ first ∷ rest
  is_digit_lem : T (is_digit first)
  value : d ≡ first - 48

digit_there : {bs : List ℕ} {d : ℕ} {rest : Bor (List ℕ)} → FirstDigit bs (Some (d, rest)) → Digit bs d rest.now
unfolding first_digit
digit_there {bs} {d} {rest} digit = go bs digit.is
  where
    go : (bs : List ℕ) → read d rest.now ≡ first_digit bs → Digit bs d rest.now
    go [] e = absurd (let z : ◌≡◌ {A = ℕ} 0 1 = cc in omega arith)
    go (b ∷ bs) e = either (is_digit b) refl e
      where
        either : (t : Bool) → is_digit b ≡ t → read d rest.now ≡ cond t (read (b - 48) bs) None → Digit (b ∷ bs) d rest.now
        either true q e =
            let p : ◌≡◌ {A = ℕ × List ℕ} (d, rest.now) (b - 48, bs) = cc in
            record {
              first = b;
              is = ap (λ l. b ∷ l) (sym (ap (λ (r : ℕ × List ℕ). r.1) p));
              is_digit_lem = subst T (sym q) tt;
              value = ap
                  (λ (r : ℕ × List ℕ). r.0) p;
            }
        either false q e = absurd (let z : ◌≡◌ {A = ℕ} 0 1 = cc in omega arith)

digit_stop : {bs : List ℕ} → FirstDigit bs None → digits bs ≡ []
unfolding digits first_digit
digit_stop {bs} digit = go bs digit.is
  where
    go : (bs : List ℕ) → None ≡ first_digit bs → digits bs ≡ []
    go [] e = refl
    go (b ∷ bs) e = either (is_digit b) e
      where
        either : (t : Bool) → None ≡ cond t (read (b - 48) bs) None → cond t (b ∷ digits bs) [] ≡ []
        either true e = absurd (let z : ◌≡◌ {A = ℕ} 0 1 = cc in omega arith)
        either false e = refl

digit_small : (b : ℕ) → T (is_digit b) → b - 48 < 10
unfolding is_digit
digit_small b t = omega (arith, leb→le b 57 (and_right (leb 48 b) (leb b 57) t))

digits_more : (b : ℕ) (bs : List ℕ) → T (is_digit b) → digits (b ∷ bs) ≡ b ∷ digits bs
unfolding digits
digits_more b bs t = cond-true (is_digit b) _ _ t

-- ---- the digits that were read
value_snoc : (ds : List ℕ) (d : ℕ) → value_of (ds ++ (d ∷ [])) ≡ value_of ds * 10 + (d - 48)
unfolding value_of
value_snoc ds d = foldl-append _ _ ds (d ∷ [])

first_at : (s : List ℕ) (at : ℕ) → get_or (drop at s) 0 0 ≡ get_or s at 0
first_at s at = get_or-drop at s 0 0 ∙ ap (λ n. get_or s n 0) (add-zero at)

pub record Scanned (bs : List ℕ) (count value : ℕ) (rest : List ℕ) : Type 0 where
  pub left : drop count (digits bs) ≡ digits rest
  pub enough : count ≤ length (digits bs)
  pub value_is : value ≡ value_of (take count (digits bs))
  pub below : value < 10 ^ count

module _ {bs : List ℕ} where
  pub scanned_none : Scanned bs 0 0 bs
  unfolding value_of
  scanned_none = record { left = refl; enough = omega arith; value_is = refl; below = lit< tt }

  module _ {count value : ℕ} {rest : List ℕ} (m : Scanned bs count value rest) where
    pub scanned_stop : FirstDigit rest None → count ≤ 10 → FirstDigits bs count value
    scanned_stop digit most = record { count_is = omega (arith, none, m.enough); value_is = m.value_is; below = m.below }
      where
        none : length (digits bs) - count ≡ 0
        none = sym (length-drop count (digits bs)) ∙ ap length (m.left ∙ digit_stop digit)

    pub scanned_small : count ≤ 10 → value < 10 ^ 10
    scanned_small h = omega (arith, m.below, pow-le-pow_right {n = 10} (omega arith) h)

    module _ {d : ℕ} {others : Bor (List ℕ)} (digit : FirstDigit rest (Some (d, others))) where
      there : Digit rest d others.now
      there = digit_there digit

      pub digit_below : d ≤ 9
      digit_below = omega (arith, there.value, digit_small there.first there.is_digit_lem)

      pub scanned_more : Scanned bs (count + 1) (value * 10 + d) others.now
      scanned_more = record {
        left = sym (drop-drop 1 count ds) ∙ ap (drop 1) more;
        enough = omega (arith, longer);
        value_is = worth;
        below = rw (add-one, pow-suc) (omega (arith, m.below, digit_below));
      }
        where
          ds : List ℕ
          ds = digits bs

          more : drop count ds ≡ there.first ∷ digits others.now
          more = m.left ∙ ap digits there.is ∙ digits_more there.first others.now there.is_digit_lem

          longer : count < length ds
          longer = let e : length ds - count ≡ suc (length (digits others.now)) = sym (length-drop count ds) ∙ ap length more in omega arith

          last : get_or ds count 0 ≡ there.first
          last = sym (first_at ds count) ∙ ap (λ xs. get_or xs 0 0) more

          worth : value * 10 + d ≡ value_of (take (count + 1) ds)
          worth = rw (add-one, take-suc ds count 0 longer, value_snoc, ← m.value_is, last, ← there.value)

-- ---- a number that is not negative
abbrev number_then : ℕ → List ℕ → Text.Option (ℤ × List ℕ)
number_then n rest = some (pos n, rest)

digits_short : (bs : List ℕ) → length (digits bs) ≤ length bs
unfolding digits
digits_short [] = omega arith
digits_short (b ∷ bs) = cond_ind (λ (ds : List ℕ). length ds ≤ suc (length bs)) (is_digit b) (λ t. omega (arith, digits_short bs)) (λ t. omega arith)

digits_first : (bs : List ℕ) → 1 ≤ length (digits bs) → get_or (digits bs) 0 0 ≡ get_or bs 0 0
unfolding digits
digits_first [] h = refl
digits_first (b ∷ bs) h = go (is_digit b) h
  where
    go : (t : Bool) → 1 ≤ length (cond t (b ∷ digits bs) []) → get_or (cond t (b ∷ digits bs) []) 0 0 ≡ b
    go true h = refl
    go false h = absurd (omega arith)

starts_zero : (bs : List ℕ) → starts_with (zero_digit ∷ []) bs ≡ eqb (get_or bs 0 0) zero_digit
unfolding starts_with
starts_zero [] = refl
starts_zero (b ∷ bs) = starts_byte 48 b bs

module _ {bs : List ℕ} {count value : ℕ} (run : FirstDigits bs count value) where
  few : count < 1 → length (digits bs) < 1
  few h = omega (arith, run.count_is)

  many : 9 < count → 9 < length (digits bs)
  many h = omega (arith, run.count_is)

  pub natural_none : count < 1 → none ≡ natural bs
  unfolding natural
  natural_none h = rw (lt-leb 1 (length (digits bs)) (few h))

  pub natural_long : 9 < count → none ≡ natural bs
  unfolding natural
  natural_long h = rw (le-leb 1 (length (digits bs)) (omega (arith, many h)), lt-leb (length (digits bs)) 9 (many h))

  module _ (low : 1 ≤ count) (high : count ≤ 9) where
    all : count ≡ length (digits bs)
    all = omega (arith, run.count_is)

    worth : value ≡ value_of (digits bs)
    worth = run.value_is ∙ ap value_of (take_all count (digits bs) (omega (arith, all)))

    natural_is : natural bs ≡ cond (eqb count 1 || not (starts_with (zero_digit ∷ []) bs)) (number_then value (drop count bs)) none
    unfolding natural
    natural_is =
        rw (
          le-leb 1 (length (digits bs)) (omega (arith, all)),
          le-leb (length (digits bs)) 9 (omega (arith, all)),
          starts_zero bs,
          ← digits_first bs (omega (arith, all)),
          worth,
          all,
        )

    pub natural_zero : 1 < count → starts_with (zero_digit ∷ []) bs ≡ true → none ≡ natural bs
    natural_zero h e = rw (natural_is, ne_eqb count 1 (λ e. omega arith), e)

    pub after_digits : count ≤ length bs
    after_digits = omega (arith, digits_short bs, all)

    pub natural_small : value < 10 ^ 9
    natural_small = omega (arith, run.below, pow-le-pow_right {n = 10} (omega arith) high)

    -- a run of digits of which the first is a zero only where it is alone
    pub natural_one : count ≤ 1 → number_then value (drop count bs) ≡ natural bs
    natural_one h = rw (natural_is, eq-eqb count 1 (omega arith)) refl

    pub natural_more : starts_with (zero_digit ∷ []) bs ≡ false → number_then value (drop count bs) ≡ natural bs
    natural_more e = rw (natural_is, e) (go (eqb count 1))
      where
        go : (t : Bool) → number_then value (drop count bs) ≡ cond (t || true) (number_then value (drop count bs)) none
        go true = refl
        go false = refl
