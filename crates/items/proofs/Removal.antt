-- An element taken out of an array: those behind it move up.
use mathlib.Core.Path.{◌≡◌, sym, ap, subst, ◌∙◌}
use mathlib.Core.Logic.{⊎_elim}
use mathlib.Core.List.{List, [], ◌∷◌, ◌++◌, append_assoc}
use Prim.Native.Nat.{ℕ, suc, ◌+◌, ◌-◌, ◌≤◌, ◌<◌}
use native.Mathlib.Omega.{arith}
use lib.Dec.{ltb, ltb→lt, nltb→le}
use lib.ListN.{length, get_or, take, drop, set, length-append, length-drop, get_or-append, drop_of_length-le}
use lib.Seq.{length-take-le, get_or-take, get_or-drop, get_or-append-add, take_all, take_at, take-take, take-length, drop-cons, set_at}
use Rattle.std.proofs.lemmas.List.{take-append-drop}
use Rattle.numbers.proofs.Shifted.{over, over_set}
use Rattle.numbers.proofs.Truth.{test}
use Rattle.items.specs.Items.{taken_out_at}

-- ---- what is left: the elements before i as they were, and those behind it one place further on
abbrev pub removed : {A : Type 0} → ℕ → List A → List A
removed i xs = take i xs ++ drop (suc i) xs

pub length_removed : {A : Type 0} (xs : List A) (i : ℕ) → i < length xs → suc (length (removed i xs)) ≡ length xs
length_removed xs i h = omega (
  arith,
  length-append (take i xs) (drop (suc i) xs),
  length-take-le i xs (omega arith),
  length-drop (suc i) xs,
)

module _ {A : Type 0} (xs : List A) (i : ℕ) (d : A) (h : i < length xs) where
  pub removed_before : (j : ℕ) → j < i → get_or (removed i xs) j d ≡ get_or xs j d
  removed_before j l = get_or-append (take i xs) (drop (suc i) xs) d j (omega (arith, length-take-le i xs (omega arith))) ∙ get_or-take i xs j d l

  pub removed_after : (j : ℕ) → i ≤ j → get_or (removed i xs) j d ≡ get_or xs (j + 1) d
  removed_after j l =
      let place : j ≡ length (take i xs) + (j - i) = omega (arith, length-take-le i xs (omega arith)) in
      let next : suc i + (j - i) ≡ j + 1 = omega arith in
      ap (λ (m : ℕ). get_or (removed i xs) m d) place ∙ get_or-append-add (take i xs) (drop (suc i) xs) (j - i) d ∙ get_or-drop (suc i) xs (j - i) d
      ∙ ap (λ (m : ℕ). get_or xs m d) next

-- the loop: the places before j hold what is left, the others what they held
module _ {A : Type 0} (xs : List A) (i : ℕ) (z : A) (h : i < length xs) where
  pub moved_none : xs ≡ over (removed i xs) i xs
  moved_none =
      sym (ap (λ (l : List A). l ++ drop i xs) (take_at (take i xs) (drop (suc i) xs) i (length-take-le i xs (omega arith))) ∙ take-append-drop i xs)

  pub moved_more : {to : List A} {v : A} (j : ℕ) → i ≤ j → j < length xs - 1 → to ≡ over (removed i xs) j xs → v ≡ get_or to (j + 1) z →
      set to j v ≡ over (removed i xs) (j + 1) xs
  moved_more {to} {v} j from l so_far e =
      rw (so_far, e, next) (over_set (removed i xs) j xs z (omega (arith, length_removed xs i h)) (omega arith))
    where
      front : length (take j (removed i xs)) ≡ j
      front = length-take-le j (removed i xs) (omega (arith, length_removed xs i h))

      next : get_or to (j + 1) z ≡ get_or (removed i xs) j z
      next =
          ap (λ (l : List A). get_or l (j + 1) z) so_far
          ∙ ap (λ (m : ℕ). get_or (over (removed i xs) j xs) (m + 1) z) (sym front)
          ∙ get_or-append-add (take j (removed i xs)) (drop j xs) 1 z ∙ get_or-drop j xs 1 z ∙ sym (removed_after xs i z h j from)

  -- and z put at the last place
  pub moved_all : {to : List A} → to ≡ over (removed i xs) (length xs - 1) xs → set to (length xs - 1) z ≡ taken_out_at (length xs) i z xs
  unfolding taken_out_at
  moved_all {to} so_far =
      let long : length (removed i xs) ≡ length xs - 1 = omega (arith, length_removed xs i h) in
      let whole : length xs ≤ length xs = omega arith in
      let end : suc (length xs - 1) ≡ length xs = omega arith in
      ap (λ (l : List A). set l (length xs - 1) z) (so_far ∙ (λ t. take_all (length xs - 1) (removed i xs) (omega (arith, long)) t
      ++ drop-cons xs (length xs - 1) z (omega arith) t))
      ∙ set_at (removed i xs) (get_or xs (length xs - 1) z) (drop (suc (length xs - 1)) xs) z (length xs - 1) long
      ∙ rw (end, take-length xs, drop_of_length-le xs whole) (append_assoc (take i xs) (drop (suc i) xs) (z ∷ []))

module _ {A : Type 0} (xs : List A) (i n : ℕ) (z : A) (h : i < n) (k : n ≤ length xs) where
  shorter : length (take n xs) ≡ n
  shorter = length-take-le n xs k

  pub taken_front : take (n - 1) (taken_out_at n i z xs) ≡ removed i (take n xs)
  unfolding taken_out_at
  taken_front =
      ap (take (n - 1)) (sym (append_assoc (take i xs) (drop (suc i) (take n xs)) (z ∷ drop n xs))
      ∙ ap (λ (l : List A). l ++ drop (suc i) (take n xs) ++ (z ∷ drop n xs)) (sym (take-take i n xs (omega arith))))
      ∙ take_at (removed i (take n xs)) (z ∷ drop n xs) (n - 1) (omega (arith, length_removed (take n xs) i (omega (arith, shorter)), shorter))

  pub taken_length : length (taken_out_at n i z xs) ≡ length xs
  unfolding taken_out_at
  taken_length = omega (
    arith,
    length-append (take i xs) (drop (suc i) (take n xs) ++ (z ∷ drop n xs)),
    length-append (drop (suc i) (take n xs)) (z ∷ drop n xs),
    length-take-le i xs (omega arith),
    length-drop (suc i) (take n xs),
    shorter,
    length-drop n xs,
  )

  taken_is : (j : ℕ) → j < n - 1 → get_or (taken_out_at n i z xs) j z ≡ get_or (removed i (take n xs)) j z
  taken_is j l = sym (get_or-take (n - 1) (taken_out_at n i z xs) j z l) ∙ ap (λ (t : List A). get_or t j z) taken_front

  pub taken_before : (j : ℕ) → j < n - 1 → j < i → get_or (taken_out_at n i z xs) j z ≡ get_or xs j z
  taken_before j l b = taken_is j l ∙ removed_before (take n xs) i z (omega (arith, shorter)) j b ∙ get_or-take n xs j z (omega arith)

  pub taken_after : (j : ℕ) → j < n - 1 → i ≤ j → get_or (taken_out_at n i z xs) j z ≡ get_or xs (j + 1) z
  taken_after j l b = taken_is j l ∙ removed_after (take n xs) i z (omega (arith, shorter)) j b ∙ get_or-take n xs (j + 1) z (omega arith)

  -- what holds of each of the first n holds of each that is left
  pub taken_each : (P : A → Type 0) → ((j : ℕ) → j < n → P (get_or xs j z)) → (j : ℕ) → j < n - 1 → P (get_or (taken_out_at n i z xs) j z)
  taken_each P each j l = ⊎_elim
      (λ t. subst P (sym (taken_before j l (ltb→lt j i t))) (each j (omega arith)))
      (λ t. subst P (sym (taken_after j l (nltb→le j i t))) (each (j + 1) (omega arith))) (test (ltb j i))
