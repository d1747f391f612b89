-- An element taken out of an array that has a list at its front: the list without it is at the front, and so it is with what is held of each item.
use mathlib.Core.Path.{◌≡◌, refl, sym, ap, ◌∙◌}
use mathlib.Core.Bool.{Bool}
use mathlib.Core.List.{List, [], ◌∷◌, map, map-append, append_assoc}
use Prim.Native.Nat.{ℕ, zero, suc, ◌-◌, ◌≤◌, ◌<◌}
use native.Mathlib.Omega.{arith}
use lib.ListN.{length, take, drop, replicate, length-map}
use lib.Seq.{take-append-le, take-append_seam, drop-append_seam}
use Rattle.numbers.specs.Padded.{padded}
use Rattle.deck.proofs.DeckLaws.{map_take}
use Rattle.items.specs.Items.{remove_first, first_place, taken_out_at}
use Rattle.items.proofs.FirstPlace.{removed_is}
use Rattle.items.proofs.Removal.{removed, length_removed}

map_drop : {A B : Type 0} (f : A → B) (n : ℕ) (l : List A) → map f (drop n l) ≡ drop n (map f l)
map_drop f zero l = refl
map_drop f (suc n) [] = refl
map_drop f (suc n) (x ∷ xs) = map_drop f n xs

-- a list without element i
pub map_removed : {A B : Type 0} (f : A → B) (i : ℕ) (xs : List A) → map f (removed i xs) ≡ removed i (map f xs)
map_removed f i xs = rw (map-append f (take i xs) (drop (suc i) xs), map_take f i xs, map_drop f (suc i) xs)

module _ {A : Type 0} (size : ℕ) (z : A) where
  -- one element less leaves one z more
  one_more : (xs : List A) (i : ℕ) → i < length xs → length xs ≤ size →
      replicate (size - length (removed i xs)) z ≡ z ∷ replicate (size - length xs) z
  one_more xs i h k = go (length (removed i xs)) (length_removed xs i h)
    where
      go : (m : ℕ) → suc m ≡ length xs → replicate (size - m) z ≡ z ∷ replicate (size - length xs) z
      go m e = let f : size - m ≡ suc (size - length xs) = omega arith in rw f

  taken_out : (xs : List A) (i : ℕ) → i < length xs → length xs ≤ size →
      taken_out_at (length xs) i z (padded size z xs) ≡ padded size z (removed i xs)
  unfolding taken_out_at padded
  taken_out xs i h k = rw (
    take-append-le i xs (replicate (size - length xs) z) (omega arith),
    take-append_seam xs (replicate (size - length xs) z),
    drop-append_seam xs (replicate (size - length xs) z),
    one_more xs i h k,
  ) (sym (append_assoc (take i xs) (drop (suc i) xs) (z ∷ replicate (size - length xs) z)))

  -- an array that is made of items, of which item i is taken out
  array_out : {B : Type 0} (f : B → A) (bs : List B) (i : ℕ) → i < length bs → length bs ≤ size →
      taken_out_at (length bs) i z (padded size z (map f bs)) ≡ padded size z (map f (removed i bs))
  array_out f bs i h k =
      ap (λ (n : ℕ). taken_out_at n i z (padded size z (map f bs))) (sym (length-map bs f))
      ∙ taken_out (map f bs) i (omega (arith, length-map bs f)) (omega (arith, length-map bs f)) ∙ ap (padded size z) (sym (map_removed f i bs))

  -- and of which the first that passes a test is taken out
  pub array_removed : {B : Type 0} (f : B → A) (same : B → Bool) (bs : List B) → first_place same bs < length bs → length bs ≤ size →
      taken_out_at (length bs) (first_place same bs) z (padded size z (map f bs)) ≡ padded size z (map f (remove_first same bs))
  array_removed f same bs h k = rw (removed_is same bs) (array_out f bs (first_place same bs) h k)
