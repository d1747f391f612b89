-- What a change that is made leaves of the lists, in plain terms.
use mathlib.Core.Path.{◌≡◌, refl, sym, subst}
use mathlib.Core.Bool.{Bool, true, false, cond}
use mathlib.Core.List.Memᴰ
use mathlib.Core.List.{List, [], ◌∷◌, Memᴰ}
use lib.Dec.{T}
use Rattle.numbers.proofs.Members.{each_cons}
use Rattle.query.specs.Deck.{Deck}
use Rattle.items.specs.Items.{is_same_place, is_same_stop, remove_first}
use Rattle.items.proofs.ItemValues.{same_place, place_same, same_stop, stop_same}
use Rattle.change.specs.Change.{Change, add_post, remove_post, add_stop, remove_stop, altered}
use Rattle.change.specs.Meaning.{FirstRemoved, first, Leaves, post_added, post_removed, stop_added, stop_removed}
use Rattle.change.proofs.Conditions.{Allows}

next_first : {A : Type 0} {x : A} (y : A) {xs ys : List A} → (y ≡ x → ⊥) → FirstRemoved x xs ys → FirstRemoved x (y ∷ xs) (y ∷ ys)
next_first {A} {x} y n (first front later h) =
    first (y ∷ front) later (λ m. each_cons (λ z. z ≡ x → ⊥) n (λ z i e. h (subst (λ a. Memᴰ a front) e i)) x m refl)

module _ {A : Type 0} (same : A → A → Bool) (equal : (a b : A) → T (same a b) → a ≡ b) (self : (a : A) → T (same a a)) where
  first_removed : (x : A) (xs : List A) → Memᴰ x xs → FirstRemoved x xs (remove_first (same x) xs)
  unfolding remove_first
  first_removed x [] m = absurd (Memᴰ.not-nil m)
  first_removed x (y ∷ ys) m = go (same x y) (equal x y) (λ e. subst (λ a. T (same x a)) (sym e) (self x)) (first_removed x ys)
    where
      go : (b : Bool) → (T b → x ≡ y) → (y ≡ x → T b) → (Memᴰ x ys → FirstRemoved x ys (remove_first (same x) ys)) →
          FirstRemoved x (y ∷ ys) (cond b ys (y ∷ remove_first (same x) ys))
      go true is other later = subst (λ a. FirstRemoved x (a ∷ ys) ys) (is tt) (first [] ys (λ n. Memᴰ.not-nil n))
      go false is other later = next_first y (λ e. absurd (other e))
          (later (each_cons (λ z. z ≡ x → Memᴰ x ys) (λ e. absurd (other e)) (λ z i e. subst (λ a. Memᴰ a ys) e i) x m refl))

pub leaves_altered : (deck : Deck) (change : Change) → Allows change deck → Leaves deck (altered change deck) change
unfolding altered
leaves_altered deck (add_post p) a = post_added refl refl
leaves_altered deck (remove_post p) a = post_removed (first_removed is_same_place same_place place_same p deck.posts a.1) refl
leaves_altered deck (add_stop s) a = stop_added refl refl
leaves_altered deck (remove_stop s) a = stop_removed (first_removed is_same_stop same_stop stop_same s deck.stops a.1) refl
