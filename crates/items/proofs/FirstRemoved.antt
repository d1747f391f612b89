-- A list without its first element that passes a test: how long it is, and which elements it has; and whether one passes.
use mathlib.Core.Path.{◌≡◌, sym, subst}
use mathlib.Core.Bool.{Bool, true, false, not, cond}
use mathlib.Core.Logic.{◌↔◌}
use mathlib.Core.List.{List, [], ◌∷◌, Memᴰ}
use Prim.Native.Nat.{suc, ◌≤◌, ◌<◌}
use native.Mathlib.Omega.{arith}
use lib.Dec.{T, ltb→lt}
use lib.ListN.{length}
use Rattle.numbers.specs.Lists.{keep}
use Rattle.numbers.proofs.Members.{some_non_empty, non_empty_some, keep_test, keep_from, keep_all}
use Rattle.items.specs.Items.{remove_first, held, first_place}
use Rattle.items.proofs.FirstPlace.{held_place, removed_is}
use Rattle.items.proofs.Removal.{length_removed}

module _ {A : Type 0} (same : A → Bool) where
  -- one passes where an element of the list does
  held_some : {x : A} (xs : List A) → Memᴰ x xs → T (same x) → T (held same xs)
  held_some xs m t = some_non_empty (keep same xs) (keep_all same xs m t)

  some_held : (xs : List A) → T (held same xs) → (x : A) × Memᴰ x xs × T (same x)
  some_held xs t = let (x, m) = non_empty_some (keep same xs) t in (x, keep_from same xs m, keep_test same xs m)

  pub held_within : (xs : List A) → T (held same xs) → first_place same xs < length xs
  held_within xs t = ltb→lt (first_place same xs) (length xs) (subst T (held_place same xs) t)

  -- ---- without it
  -- at most one element less, and just one where one passes
  pub removed_least : (xs : List A) → length xs ≤ suc (length (remove_first same xs))
  unfolding remove_first
  removed_least [] = omega arith
  removed_least (x ∷ xs) = go (same x) (removed_least xs)
    where
      go : (b : Bool) → length xs ≤ suc (length (remove_first same xs)) → suc (length xs) ≤ suc (length (cond b xs (x ∷ remove_first same xs)))
      go true h = omega arith
      go false h = omega arith

  pub removed_length : (xs : List A) → T (held same xs) → suc (length (remove_first same xs)) ≡ length xs
  removed_length xs t = rw (removed_is same xs) (length_removed xs (first_place same xs) (held_within xs t))

  -- its elements are of the list, and those of the list that do not pass are its elements
  pub removed_from : {y : A} (xs : List A) → Memᴰ y (remove_first same xs) → Memᴰ y xs
  unfolding remove_first
  removed_from [] m = m
  removed_from {y} (x ∷ xs) m = go (same x) (removed_from xs) m
    where
      go : (b : Bool) → (Memᴰ y (remove_first same xs) → Memᴰ y xs) → Memᴰ y (cond b xs (x ∷ remove_first same xs)) → Memᴰ y (x ∷ xs)
      go true h n = Memᴰ.tail n
      go false h (Memᴰ.head e) = Memᴰ.head e
      go false h (Memᴰ.tail n) = Memᴰ.tail (h n)

  pub removed_keeps : {y : A} (xs : List A) → Memᴰ y xs → T (not (same y)) → Memᴰ y (remove_first same xs)
  unfolding remove_first
  removed_keeps [] m t = m
  removed_keeps {y} (x ∷ xs) m t = go (same x) (λ u. u) (λ n. removed_keeps xs n t) m
    where
      go : (b : Bool) → (T (not (same x)) → T (not b)) → (Memᴰ y xs → Memᴰ y (remove_first same xs)) → Memᴰ y (x ∷ xs) →
          Memᴰ y (cond b xs (x ∷ remove_first same xs))
      go true u h (Memᴰ.head e) = absurd (u (subst (λ (a : A). T (not (same a))) e t))
      go true u h (Memᴰ.tail n) = n
      go false u h (Memᴰ.head e) = Memᴰ.head e
      go false u h (Memᴰ.tail n) = Memᴰ.tail (h n)

-- ---- where equal values pass: one passes exactly if the item is in the list
module _ {A : Type 0} (same : A → A → Bool) (equal : (a b : A) → T (same a b) → a ≡ b) (self : (a : A) → T (same a a)) where
  pub held_member : (a : A) (xs : List A) → T (held (same a) xs) ↔ Memᴰ a xs
  held_member a xs = (
    λ t. let (x, m, u) = some_held (same a) xs t in subst (λ (b : A). Memᴰ b xs) (sym (equal a x u)) m,
    λ m. held_some (same a) xs m (self a),
  )
