-- A list at the front of an array: how long the array is, one element more, other elements over them, and an element of it.
use mathlib.Core.Path.{◌≡◌, refl, sym, ap, ◌∙◌}
use mathlib.Core.List.{List, [], ◌∷◌, map, map-append, ◌++◌, Memᴰ}
use Prim.Native.Nat.{ℕ, zero, suc, ◌+◌, ◌-◌, ◌≤◌, ◌<◌}
use native.Mathlib.Omega.{arith}
use lib.ListN.{length, get_or, take, drop, set, replicate, length-append, length-map, length-replicate, replicate-append-replicate, get_or-append}
use lib.Seq.{set_at, take_at, drop_at, drop-append-add, append_snoc}
use Rattle.numbers.specs.Padded.{padded}

module _ {A : Type 0} (size : ℕ) (z : A) where
  pub padded_none : padded size z [] ≡ replicate size z
  unfolding padded
  padded_none = rw sub_zero
    where
      sub_zero : size - 0 ≡ size
      sub_zero = omega arith

  pub padded_length : (xs : List A) → length xs ≤ size → length (padded size z xs) ≡ size
  unfolding padded
  padded_length xs h = omega (arith, length-append xs (replicate (size - length xs) z), length-replicate (size - length xs) z)

  pub padded_more : (xs : List A) (i : ℕ) (a : A) → length xs ≡ i → i < size → set (padded size z xs) i a ≡ padded size z (xs ++ a ∷ [])
  unfolding padded
  padded_more xs i a e h = rw (
    split,
    set_at xs z (replicate (size - suc (length xs)) z) a i e,
    joined,
  ) (sym (append_snoc xs a (replicate (size - suc (length xs)) z)))
    where
      split : replicate (size - length xs) z ≡ z ∷ replicate (size - suc (length xs)) z
      split = let k : size - length xs ≡ suc (size - suc (length xs)) = omega arith in rw k

      joined : length (xs ++ a ∷ []) ≡ suc (length xs)
      joined = rw (length-append xs (a ∷ [])) (omega arith)

  pub padded_map : {B : Type 0} (f : B → A) (bs : List B) (b : B) {i : ℕ} {l : List A} → i ≡ length bs → i < size → l ≡ padded size z (map f bs) →
      set l i (f b) ≡ padded size z (map f (bs ++ (b ∷ [])))
  padded_map f bs b {i} e h l = rw (l, padded_more (map f bs) i (f b) (length-map bs f ∙ sym e) h, map-append)

  pub padded_front : (xs : List A) → take (length xs) (padded size z xs) ≡ xs
  unfolding padded
  padded_front xs = take_at xs _ (length xs) refl

  pub padded_at : (xs : List A) (i : ℕ) → i < length xs → get_or (padded size z xs) i z ≡ get_or xs i z
  unfolding padded
  padded_at xs i h = get_or-append xs _ z i h

  pub padded_behind : (xs : List A) (i : ℕ) → length xs ≤ i → get_or (padded size z xs) i z ≡ z
  unfolding padded
  padded_behind xs i h = go xs i h
    where
      zeros : (m i : ℕ) → get_or (replicate m z) i z ≡ z
      zeros zero i = refl
      zeros (suc m) zero = refl
      zeros (suc m) (suc i) = zeros m i

      go : (ys : List A) (i : ℕ) → length ys ≤ i → get_or (ys ++ replicate (size - length xs) z) i z ≡ z
      go [] i h = zeros (size - length xs) i
      go (y ∷ ys) zero h = absurd (omega arith)
      go (y ∷ ys) (suc i) h = go ys i (omega arith)

  drop_replicate : (m n : ℕ) → m ≤ n → drop m (replicate n z) ≡ replicate (n - m) z
  drop_replicate m n h =
      let e : n ≡ m + (n - m) = omega arith in
      ap (λ (k : ℕ). drop m (replicate k z)) e ∙ rw (← replicate-append-replicate m (n - m) z)
      (drop_at (replicate m z) (replicate (n - m) z) m (length-replicate m z))

  -- a list that is as long or longer, written over the array from its first element on
  pub padded_over : (xs ys : List A) → length xs ≤ length ys → length ys ≤ size → ys ++ drop (length ys) (padded size z xs) ≡ padded size z ys
  unfolding padded
  padded_over xs ys h k =
      let e : length ys ≡ length xs + (length ys - length xs) = omega arith in
      let f : size - length xs - (length ys - length xs) ≡ size - length ys = omega arith in
      ap (λ (l : List A). ys ++ l)
      (ap (λ (m : ℕ). drop m (xs ++ replicate (size - length xs) z)) e
      ∙ drop-append-add xs (replicate (size - length xs) z) (length ys - length xs)
      ∙ drop_replicate (length ys - length xs) (size - length xs) (omega arith)
      ∙ ap (λ (m : ℕ). replicate m z) f)

-- what holds of z and of each element holds of each element of the array, and past its end
module _ {A : Type 0} (P : A → Type 0) (z : A) (h : P z) where
  each_replicate : (m i : ℕ) → P (get_or (replicate m z) i z)
  each_replicate zero i = h
  each_replicate (suc m) zero = h
  each_replicate (suc m) (suc i) = each_replicate m i

  each_append : (m : ℕ) (xs : List A) → ((a : A) → Memᴰ a xs → P a) → (i : ℕ) → P (get_or (xs ++ replicate m z) i z)
  each_append m [] each i = each_replicate m i
  each_append m (x ∷ xs) each zero = each x (Memᴰ.head refl)
  each_append m (x ∷ xs) each (suc i) = each_append m xs (λ a n. each a (Memᴰ.tail n)) i

  pub padded_each : (size : ℕ) (xs : List A) → ((a : A) → Memᴰ a xs → P a) → (i : ℕ) → P (get_or (padded size z xs) i z)
  unfolding padded
  padded_each size xs each i = each_append (size - length xs) xs each i
