-- What the library's search finds: the place of the first element that passes a test, in a list of what the elements are read as.
use mathlib.Core.Path.{◌≡◌, ap, ◌∙◌}
use mathlib.Core.Bool.{Bool, cond}
use mathlib.Core.List.{List, ◌∷◌, map}
use Prim.Native.Nat.{ℕ, suc, ◌+◌}
use native.Mathlib.Omega.{arith}
use lib.ListN.{length-map}
use Rattle.std.specs.List.{position, position_or_len}
use Rattle.std.proofs.lemmas.List.Recursion.{is_position_or_len}
use Rattle.items.specs.Items.{first_place, first_found}
use Rattle.items.proofs.FirstPlace.{place_none, place_cons, held_place}

module _ {A B : Type 0} (read : A → B) (same : B → Bool) where
  first_is : (xs : List A) → first_place same (map read xs) ≡ position_or_len (λ x. same (read x)) xs
  first_is = is_position_or_len (λ xs. first_place same (map read xs)) (λ x. same (read x)) (place_none same) step
    where
      step : (x : A) (xs : List A) → first_place same (map read (x ∷ xs)) ≡ cond (same (read x)) 0 (1 + first_place same (map read xs))
      step x xs =
          let e : suc (first_place same (map read xs)) ≡ 1 + first_place same (map read xs) = omega arith in
          place_cons same (read x) (map read xs) ∙ ap (λ (n : ℕ). cond (same (read x)) 0 n) e

  pub found_is : (xs : List A) → position (λ x. same (read x)) xs ≡ first_found same (map read xs)
  found_is xs = rw (held_place same (map read xs), first_is xs, length-map xs read)
