-- Numbers of at most nine digits, and the fault of one line by tests of its numbers.
use mathlib.Core.Path.{◌≡◌, refl, sym, ap, ap₂, subst, ◌∙◌}
use mathlib.Core.Bool.{Bool, true, false, ◌&&◌}
use mathlib.Core.List.{List, [], ◌∷◌}
use mathlib.Core.Option.{Option, none, some, none-ne-some}
use mathlib.Core.Logic.{⊎_elim}
use Prim.Native.Nat.{ℕ, ◌≤◌, ◌<◌}
use native.Mathlib.Omega.{arith}
use borrow.Author.Tests.{le-leb, lt-leb}
use lib.Dec.{T, ltb, leb, leb→le, ltb→lt, nltb→le}
use lib.IntN.{ℤ, pos, nat_abs}
use mir.Syntax.{w64}
use mir.Val.{SFits, to_z}
use mir.ValLaws.{to_z_pos}
use Rattle.std.specs.Prelude as Std
use Rattle.std.specs.Prelude.{Ok, Err, IsErrAnd}
use Rattle.numbers.proofs.Truth.{test, and_right}
use Rattle.numbers.proofs.WordTests.{back, back_is}
use Rattle.job_line.specs.Kinds.{Range, stop, up_to, row, in_ranges}
use Rattle.job_line.proofs.RangeTests.{count_above, count_within}
use Rattle.refusal.specs.declared.Refusal.{Refusal}
use Rattle.refusal.specs.declared.Refusal.TheVariants.{Malformed}
use Rattle.job_check.specs.LineFaults.{short, all_short, tested_fault, numbers_fault, checked_as}

-- ---- one number
pub number_short : {z : ℤ} {n : ℕ} → SFits w64 z → n ≡ nat_abs (back z) → ltb n 1000000000 ≡ short z
unfolding short
number_short f e = ap (λ (m : ℕ). ltb m 1000000000) (e ∙ ap nat_abs (back_is f))

pub short_word : {z : ℤ} {r : Bool} → SFits w64 z → r ≡ short (back z) → r ≡ short z
short_word f e = e ∙ ap short (back_is f)

pub natural_is : (n : ℕ) → ltb n 1000000000 ≡ short (pos n)
unfolding short
natural_is n = refl

-- ---- two tests, the second only where the first holds
pub both_on : {r s t u : Bool} → r ≡ s → t ≡ u → r ≡ true → t ≡ s && u
both_on {u = u} e f on = f ∙ ap (λ (b : Bool). b && u) (sym on ∙ e)

pub both_off : {r s : Bool} (u : Bool) → r ≡ s → r ≡ false → r ≡ s && u
both_off u e off = off ∙ ap (λ (b : Bool). b && u) (sym off ∙ e)

-- ---- some numbers
and_true : (t : Bool) → t && true ≡ t
and_true true = refl
and_true false = refl

pub short_one : (z : ℤ) → short z ≡ all_short (z ∷ [])
unfolding all_short
short_one z = sym (and_true (short z))

pub short_two : (x y : ℤ) → short x && short y ≡ all_short (x ∷ y ∷ [])
unfolding all_short
short_two x y = ap (λ (t : Bool). short x && t) (sym (and_true (short y)))

-- an area, by its lower corner and the other one
pub short_corners : (a b c d : ℤ) → all_short (a ∷ b ∷ []) && all_short (c ∷ d ∷ []) ≡ all_short (a ∷ b ∷ c ∷ d ∷ [])
unfolding all_short
short_corners a b c d = go (short a) (short b) (all_short (c ∷ d ∷ []))
  where
    go : (s t u : Bool) → (s && (t && true)) && u ≡ s && (t && u)
    go true true u = refl
    go true false u = refl
    go false t u = refl

-- a stop, by its place and its visits
pub short_stop : (x y v : ℤ) → all_short (x ∷ y ∷ []) && short v ≡ all_short (x ∷ y ∷ v ∷ [])
unfolding all_short
short_stop x y v = go (short x) (short y) (short v)
  where
    go : (s t u : Bool) → (s && (t && true)) && u ≡ s && (t && (u && true))
    go true true true = refl
    go true true false = refl
    go true false u = refl
    go false t u = refl

-- the visits of a short stop
pub few_visits : (x y : ℤ) (n : ℕ) {r : Bool} → r ≡ all_short (x ∷ y ∷ pos n ∷ []) → r ≡ true → n < 1000000000
few_visits x y n e on = ltb→lt n 1000000000 (subst T (sym (natural_is n))
    (and_right (all_short (x ∷ y ∷ [])) (short (pos n)) (subst T (sym on ∙ e ∙ sym (short_stop x y (pos n))) tt)))

-- visits that are cast to a signed word
pub visits_tested : (x y : ℤ) (n : ℕ) {r : Bool} → n < 1000000000 → r ≡ in_ranges (row stop).ranges (x ∷ y ∷ to_z w64 n ∷ []) →
    r ≡ in_ranges (row stop).ranges (x ∷ y ∷ pos n ∷ [])
visits_tested x y n h e = rw (to_z_pos w64 n (omega arith)) at e

-- ---- one line
module _ (ranges : List Range) (n : ℕ) (ns : List ℤ) where
  pub malformed : all_short ns ≡ false → some (Malformed n) ≡ numbers_fault ranges n ns
  unfolding numbers_fault
  malformed long = rw long

  pub line_tested : {r : Option Refusal} {s t : Bool} → r ≡ tested_fault s t n → s ≡ all_short ns → t ≡ in_ranges ranges ns → r ≡ numbers_fault ranges n ns
  unfolding numbers_fault
  line_tested e f g = e ∙ ap₂ (λ (a b : Bool). tested_fault a b n) f g

-- a count
pub count_tested : (most n : ℕ) → leb n most ≡ in_ranges (up_to most ∷ []) (pos n ∷ [])
count_tested most n = ⊎_elim
    (λ t. let h = ltb→lt most n t in lt-leb n most h ∙ sym (count_above most n h))
    (λ t. let h = nltb→le most n t in le-leb n most h ∙ sym (count_within most n h)) (test (ltb most n))

-- one without a fault
some_none : {why : Refusal} → some why ≡ none → ⊥
some_none {why} e = none-ne-some why (sym e)

pub count_most : (most n line : ℕ) {found : Option Refusal} → found ≡ numbers_fault (up_to most ∷ []) line (pos n ∷ []) → found ≡ none → n ≤ most
count_most most n line e fine = go (ltb n 1000000000) (leb n most) (λ t. leb→le n most t)
    (line_tested (up_to most ∷ []) line (pos n ∷ []) refl (natural_is n ∙ short_one (pos n)) (count_tested most n) ∙ sym e ∙ fine)
  where
    go : (s t : Bool) → (T t → n ≤ most) → tested_fault s t line ≡ none → n ≤ most
    go true true f p = f tt
    go true false f p = absurd (some_none p)
    go false t f p = absurd (some_none p)

-- ---- a result
-- a refusal that `?` passes on
pub passed_on : (r : Std.Result (Unit {0}) Refusal) {why : Refusal} → IsErrAnd r (λ e. e ≡ why) → checked_as r ≡ some why
passed_on (Ok u) h = absurd h
passed_on (Err e) h = ap some h
