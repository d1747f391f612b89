-- The first element that passes a test: found from the front; and what its place says of the list.
use mathlib.Core.Path.{◌≡◌, refl, sym, ap, ◌∙◌}
use mathlib.Core.Bool.{Bool, true, false, cond}
use mathlib.Core.List.{List, [], ◌∷◌, ◌++◌}
use Prim.Native.Nat.{suc}
use native.Mathlib.Omega.{arith}
use lib.Dec.{ltb, lt→ltb, leb-suc-suc}
use lib.ListN.{length, take, drop}
use Rattle.numbers.specs.Lists.{keep, non_empty}
use Rattle.numbers.proofs.Truth.{holds}
use Rattle.items.specs.Items.{remove_first, held, first_place}

module _ {A : Type 0} (same : A → Bool) where
  pub place_cons : (x : A) (xs : List A) → first_place same (x ∷ xs) ≡ cond (same x) 0 (suc (first_place same xs))
  unfolding first_place
  place_cons x xs = refl

  pub place_none : first_place same [] ≡ 0
  unfolding first_place
  place_none = refl

  -- ---- one passes exactly if its place is within the list
  pub held_place : (xs : List A) → held same xs ≡ ltb (first_place same xs) (length xs)
  unfolding keep first_place
  held_place [] = refl
  held_place (x ∷ xs) = go (same x) (held_place xs)
    where
      go : (b : Bool) → held same xs ≡ ltb (first_place same xs) (length xs) →
          non_empty (cond b (x ∷ keep same xs) (keep same xs)) ≡ ltb (cond b 0 (suc (first_place same xs))) (suc (length xs))
      go true e = sym (holds (ltb 0 (suc (length xs))) (lt→ltb 0 (suc (length xs)) (omega arith)))
      go false e = e ∙ sym (leb-suc-suc (suc (first_place same xs)) (length xs))

  -- ---- without the first that passes
  pub removed_is : (xs : List A) → remove_first same xs ≡ take (first_place same xs) xs ++ drop (suc (first_place same xs)) xs
  unfolding remove_first first_place
  removed_is [] = refl
  removed_is (x ∷ xs) = go (same x) (removed_is xs)
    where
      go : (b : Bool) → remove_first same xs ≡ take (first_place same xs) xs ++ drop (suc (first_place same xs)) xs → cond b xs (x ∷ remove_first same xs)
          ≡ take (cond b 0 (suc (first_place same xs))) (x ∷ xs) ++ drop (suc (cond b 0 (suc (first_place same xs)))) (x ∷ xs)
      go true e = refl
      go false e = ap (λ (l : List A). x ∷ l) e
