-- Lists joined end to end: what `flatten` and `flat_map` make, and how long it is; an element with those behind it; and maps, element by
-- element.
use mathlib.Core.Path.{◌≡◌, refl, sym, ap, ap₂, ◌∙◌}
use mathlib.Core.List.{List, [], ◌∷◌, ◌++◌, foldr, foldr-append, append_assoc, map, flatten, flat_map, Memᴰ}
use Prim.Native.Nat.{ℕ, zero, suc, ◌+◌, ◌*◌, ◌≤◌, ◌<◌}
use native.Mathlib.Numerals.{add-one}
use native.Mathlib.Omega.{arith}
use lib.ListN.{length, get_or, drop, length-append}
use lib.Seq.{drop-cons}

module _ {A : Type 0} where
  -- joined, with one more list behind
  flatten_onto : (ls : List (List A)) (rest : List A) → flatten ls ++ rest ≡ foldr ◌++◌ rest ls
  unfolding flatten
  flatten_onto [] rest = refl
  flatten_onto (l ∷ ls) rest = append_assoc l (flatten ls) rest ∙ ap (λ (m : List A). l ++ m) (flatten_onto ls rest)

  pub flatten_snoc : (ls : List (List A)) (l rest : List A) → flatten (ls ++ (l ∷ [])) ++ rest ≡ flatten ls ++ (l ++ rest)
  flatten_snoc ls l rest = flatten_onto (ls ++ (l ∷ [])) rest ∙ foldr-append ◌++◌ rest ls (l ∷ []) ∙ sym (flatten_onto ls (l ++ rest))

pub flat_map_append : {A B : Type 0} (f : A → List B) (xs ys : List A) → flat_map f (xs ++ ys) ≡ flat_map f xs ++ flat_map f ys
unfolding flat_map
flat_map_append f [] ys = refl
flat_map_append f (x ∷ xs) ys = ap (λ (l : List _). f x ++ l) (flat_map_append f xs ys) ∙ sym (append_assoc (f x) (flat_map f xs) (flat_map f ys))

-- the same lists, made of other elements
pub map_at : {A B : Type 0} (f : A → B) (xs : List A) (i : ℕ) (z : B) (d : A) → i < length xs → get_or (map f xs) i z ≡ f (get_or xs i d)
map_at f [] i z d h = absurd (omega arith)
map_at f (x ∷ xs) zero z d h = refl
map_at f (x ∷ xs) (suc i) z d h = map_at f xs i z d (omega arith)

pub map_each : {A B : Type 0} (f g : A → B) (xs : List A) → ((x : A) → Memᴰ x xs → f x ≡ g x) → map f xs ≡ map g xs
map_each f g [] each = refl
map_each f g (x ∷ xs) each = ap₂ ◌∷◌ (each x (Memᴰ.head refl)) (map_each f g xs (λ y m. each y (Memᴰ.tail m)))

pub flat_map_map : {A B C : Type 0} (f : A → List C) (g : B → List C) (h : A → B) (xs : List A) → ((x : A) → Memᴰ x xs → f x ≡ g (h x)) →
    flat_map f xs ≡ flat_map g (map h xs)
unfolding flat_map
flat_map_map f g h [] each = refl
flat_map_map f g h (x ∷ xs) each = ap₂ ◌++◌ (each x (Memᴰ.head refl)) (flat_map_map f g h xs (λ y m. each y (Memᴰ.tail m)))

pub flat_map_length : {A B : Type 0} (f : A → List B) (k : ℕ) (xs : List A) → ((x : A) → Memᴰ x xs → length (f x) ≤ k) →
    length (flat_map f xs) ≤ length xs * k
unfolding flat_map
flat_map_length f k [] each = omega arith
flat_map_length f k (x ∷ xs) each = simp length-append (omega (arith, each x (Memᴰ.head refl), flat_map_length f k xs (λ y m. each y (Memᴰ.tail m))))

-- an element and those behind it
pub drop_next : {A : Type 0} (l : List A) (i : ℕ) {k : ℕ} (z : A) → k ≡ i + 1 → i < length l → drop i l ≡ get_or l i z ∷ drop k l
drop_next l i z e h = rw (e, add-one i) (drop-cons l i z h)
