-- A list copied into an array from a place on, one element after another; columns of `stops_limit` numbers copied one behind another.
use mathlib.Core.Path.{◌≡◌, refl, sym, ap, subst, ◌∙◌}
use mathlib.Core.List.{List, ◌++◌, append_assoc, append-nil}
use Prim.Native.Nat.{ℕ, ◌+◌, ◌-◌, ◌≤◌, ◌<◌}
use native.Mathlib.Numerals.{add-one}
use native.Mathlib.Omega.{arith}
use lib.IntN.{ℤ, pos}
use lib.ListN.{length, get_or, take, drop, set, replicate, length-replicate, replicate-append-replicate, get_or-append}
use lib.Seq.{take-length, drop-length, paste, paste-zero, paste-suc, length-paste}
use lib.Seq.{drop-paste, length-take-le, get_or-take, get_or-drop, take_at, drop_at, drop-append-add}
use Rattle.numbers.specs.Padded.{padded}
use Rattle.query.specs.Range.{stops_limit}

-- an array d into which the first n elements of s are copied from `at` on, i of them so far
module _ {A : Type 0} (d : List A) (at : ℕ) (s : List A) (n : ℕ) where
  pub record Copied (to : List A) (i : ℕ) : Type 0 where
    pub count : i ≤ n
    pub long : length to ≡ length d
    pub copied : to ≡ paste d at s i

  pub copied_none : Copied d 0
  copied_none = record { count = omega arith; long = refl; copied = paste-zero d at s }

  pub copied_more : {to : List A} {i : ℕ} (v z : A) → at + n ≤ length d → n ≤ length s → Copied to i → i < n → v ≡ get_or s i z →
      Copied (set to (at + i) v) (i + 1)
  copied_more {to} {i} v z g h so_far l e = record { count = omega arith; long = rw is (length-paste d at s (i + 1) (omega arith) (omega arith)); copied = is }
    where
      is : set to (at + i) v ≡ paste d at s (i + 1)
      is = rw (so_far.copied, e, add-one i) (paste-suc d at s i z (omega arith) (omega arith))

  pub copied_all : {to : List A} {i : ℕ} → Copied to i → n ≤ i → to ≡ paste d at s n
  copied_all {to} {i} so_far h = let e : i ≡ n = omega arith in so_far.copied ∙ rw e

  -- what stands before that place is kept
  pub copied_before : {to : List A} {i : ℕ} → Copied to i → at ≤ length d → (j : ℕ) (z : A) → j < at → get_or to j z ≡ get_or d j z
  copied_before {to} {i} so_far h j z l =
      rw (so_far.copied, append_assoc (take at d) (take i s) (drop (at + i) d))
      (get_or-append (take at d) _ z j (omega (arith, length-take-le at d h)) ∙ get_or-take at d j z l)

  -- the next element is not copied yet, and those before it are
  pub copied_next : {to : List A} {i : ℕ} → Copied to i → at ≤ length d → n ≤ length s → (z : A) → get_or to (at + i) z ≡ get_or d (at + i) z
  copied_next {to} {i} so_far g h z =
      let e : at + i ≡ at + i + 0 = omega arith in
      ap (λ (k : ℕ). get_or to k z) e ∙ sym (get_or-drop (at + i) to 0 z)
      ∙ rw (so_far.copied, drop-paste d at s i g (omega (arith, so_far.count))) (get_or-drop (at + i) d 0 z ∙ ap (λ (k : ℕ). get_or d k z) (sym e))

  pub copied_within : {to : List A} {i : ℕ} → Copied to i → at ≤ length d → n ≤ length s → (j : ℕ) (z : A) → j < i → get_or to (at + j) z ≡ get_or s j z
  copied_within {to} {i} so_far g h j z l =
      sym (get_or-drop at to j z)
      ∙ rw (
        so_far.copied,
        append_assoc (take at d) (take i s) (drop (at + i) d),
        drop_at (take at d) (take i s ++ drop (at + i) d) at (length-take-le at d g),
      )
      (get_or-append (take i s) _ z j (omega (arith, length-take-le i s (omega (arith, so_far.count)))) ∙ get_or-take i s j z l)

-- a list copied from the front on, the whole of it into an array of its length
pub copied_start : {A : Type 0} (d s : List A) {to : List A} {i : ℕ} (v z : A) → length d ≡ length s → Copied d 0 s (length s) to i → i < length s →
    v ≡ get_or s i z → Copied d 0 s (length s) (set to i v) (i + 1)
copied_start d s {to} {i} v z same so_far h e =
    let at : 0 + i ≡ i = omega arith in
    subst (λ (m : ℕ). Copied d 0 s (length s) (set to m v) (i + 1)) at (copied_more d 0 s (length s) v z (omega arith) (omega arith) so_far h e)

pub copied_whole : {A : Type 0} (d s : List A) {to : List A} {i : ℕ} → length d ≡ length s → Copied d 0 s (length s) to i → length s ≤ i → to ≡ s
copied_whole {A} d s {to} {i} same so_far h =
    copied_all d 0 s (length s) so_far h ∙ ap (λ (l : List A). l ++ drop (0 + length s) d) (take-length s)
    ∙ ap (λ (l : List A). s ++ l) (ap (λ (m : ℕ). drop m d) (at ∙ sym same) ∙ drop-length d) ∙ append-nil s
  where
    at : 0 + length s ≡ length s
    at = omega arith

-- of two copies to the same place the second counts
pub copied_again : {A : Type 0} (d : List A) (at : ℕ) (s t : List A) (n : ℕ) → at ≤ length d → n ≤ length s → paste (paste d at s n) at t n ≡ paste d at t n
copied_again d at s t n g h =
    rw (drop-paste d at s n g h, append_assoc (take at d) (take n s) (drop (at + n) d), take_at (take at d) _ at (length-take-le at d g))

-- a column copied behind others, where all is 0 yet
pub put_column : (before : List ℤ) (at m n : ℕ) (xs : List ℤ) → length before ≡ at → n ≤ stops_limit → n ≤ length xs →
    paste (before ++ replicate (stops_limit + m) (pos 0)) at xs n ≡ before ++ padded stops_limit (pos 0) (take n xs) ++ replicate m (pos 0)
unfolding padded
put_column before at m n xs e h l =
    ap (λ (r : List ℤ). r ++ take n xs ++ drop (at + n) (before ++ replicate (stops_limit + m) (pos 0))) (take_at before _ at e)
    ∙ rw (← e, drop-append-add before (replicate (stops_limit + m) (pos 0)) n, length-take-le n xs l, split)
    (sym (append_assoc (before ++ take n xs) _ _) ∙ ap (λ (r : List ℤ). r ++ replicate m (pos 0)) (append_assoc before (take n xs) _))
  where
    split : drop n (replicate (stops_limit + m) (pos 0)) ≡ replicate (stops_limit - n) (pos 0) ++ replicate m (pos 0)
    split =
        let k : stops_limit + m ≡ n + (stops_limit - n + m) = omega arith in
        rw (k, ← replicate-append-replicate n (stops_limit - n + m) (pos 0), drop_at (replicate n (pos 0)) _ n (length-replicate n (pos 0)))
        (sym (replicate-append-replicate (stops_limit - n) m (pos 0)))
