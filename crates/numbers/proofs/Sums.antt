-- Sums over lists.
use mathlib.Core.Path.{◌≡◌, refl}
use mathlib.Core.Bool.{Bool, true, false, cond}
use mathlib.Core.List.{List, [], ◌∷◌, Memᴰ}
use Prim.Native.Nat.{ℕ, ◌+◌, ◌*◌, ◌≤◌}
use native.Mathlib.Omega.{arith}
use lib.ListN.{length}
use Rattle.numbers.specs.Lists.{sum_of, keep, insert_by}
use Rattle.numbers.proofs.Truth.{cond_ind}

module _ {A : Type 0} where
  pub sum_of_cons : (f : A → ℕ) (x : A) (xs : List A) → sum_of f (x ∷ xs) ≡ f x + sum_of f xs
  unfolding sum_of
  sum_of_cons f x xs = refl

  pub sum_of_nil : (f : A → ℕ) → sum_of f [] ≡ 0
  unfolding sum_of
  sum_of_nil f = refl

  -- an inequality of every term, with factors that are the same for all, holds of the sums
  pub sum_of_linear : (α β γ δ : ℕ) (f g h k : A → ℕ) (xs : List A) → ((x : A) → Memᴰ x xs → α * f x + β * g x ≤ γ * h x + δ * k x) →
      α * sum_of f xs + β * sum_of g xs ≤ γ * sum_of h xs + δ * sum_of k xs
  unfolding sum_of
  sum_of_linear α β γ δ f g h k [] each = omega arith
  sum_of_linear α β γ δ f g h k (x ∷ xs) each = omega (arith, each x (Memᴰ.head refl), sum_of_linear α β γ δ f g h k xs (λ y m. each y (Memᴰ.tail m)))

  pub sum_of_le : (f g : A → ℕ) (xs : List A) → ((x : A) → Memᴰ x xs → f x ≤ g x) → sum_of f xs ≤ sum_of g xs
  sum_of_le f g xs each = omega (arith, sum_of_linear 1 0 1 0 f f g g xs (λ x m. omega (arith, each x m)))

  -- a sum of terms that are each at most k
  pub sum_of_most : (f : A → ℕ) (k : ℕ) (xs : List A) → ((x : A) → Memᴰ x xs → f x ≤ k) → sum_of f xs ≤ length xs * k
  unfolding sum_of
  sum_of_most f k [] each = omega arith
  sum_of_most f k (x ∷ xs) each = omega (arith, each x (Memᴰ.head refl), sum_of_most f k xs (λ y m. each y (Memᴰ.tail m)))

  pub sum_of_keep : (f : A → ℕ) (p : A → Bool) (xs : List A) → sum_of f (keep p xs) ≡ sum_of (λ x. cond (p x) (f x) 0) xs
  unfolding keep sum_of
  sum_of_keep f p [] = refl
  sum_of_keep f p (x ∷ xs) = go (p x) (sum_of_keep f p xs)
    where
      go : (b : Bool) → sum_of f (keep p xs) ≡ sum_of (λ x. cond (p x) (f x) 0) xs →
          sum_of f (cond b (x ∷ keep p xs) (keep p xs)) ≡ cond b (f x) 0 + sum_of (λ x. cond (p x) (f x) 0) xs
      go true e = omega arith
      go false e = omega arith

  pub sum_of_keep_le : (f : A → ℕ) (p : A → Bool) (xs : List A) → sum_of f (keep p xs) ≤ sum_of f xs
  unfolding keep sum_of
  sum_of_keep_le f p [] = omega arith
  sum_of_keep_le f p (x ∷ xs) = cond_ind (λ (l : List A). sum_of f l ≤ sum_of f (x ∷ xs)) (p x) (λ t. omega (arith, sum_of_keep_le f p xs))
      (λ t. omega (arith, sum_of_keep_le f p xs))

  pub sum_of_insert_by : (f : A → ℕ) (before : A → A → Bool) (x : A) (ys : List A) → sum_of f (insert_by before x ys) ≡ f x + sum_of f ys
  unfolding insert_by sum_of
  sum_of_insert_by f before x [] = refl
  sum_of_insert_by f before x (y ∷ ys) = cond_ind (λ (l : List A). sum_of f l ≡ f x + sum_of f (y ∷ ys)) (before x y) (λ t. refl)
      (λ t. omega (arith, sum_of_insert_by f before x ys))
