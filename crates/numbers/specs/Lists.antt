-- Lists: what the rules need of them beside the library's `map`, `foldl`, `foldr`, `length` and `◌++◌`.
use Prim.Native.Nat.{ℕ, suc, ◌+◌}
use Rattle.std.specs.Prelude.{Bool, true, false, cond, ℤ}
use mathlib.Core.List.{List, [], ◌∷◌, map, foldl}
use mathlib.Core.List as L
use Rattle.std.specs.Int.Signed.{lt_z}

module _ {ℓ} {A : Type ℓ} where
  -- the sum of f over a list
  unfoldable pub sum_of : (A → ℕ) → List A → ℕ
  unfolding L.sum
  sum_of f xs = L.sum ◌+◌ 0 (map f xs)

  -- the elements that pass a test, in their order
  unfoldable pub keep : (A → Bool) → List A → List A
  keep test [] = []
  keep test (x ∷ xs) = let rest = keep test xs in cond (test x) (x ∷ rest) rest

  abbrev pub non_empty : List A → Bool
  non_empty [] = false
  non_empty (x ∷ xs) = true

  -- the least of x and of some more, by a strict order: the first of those that none of the others comes before
  unfoldable pub least_by : (A → A → Bool) → A → List A → A
  least_by before x xs = foldl (λ least next. cond (before next least) next least) x xs

  -- x among elements that are in order: behind those that it does not come before
  unfoldable pub insert_by : (A → A → Bool) → A → List A → List A
  insert_by before x [] = x ∷ []
  insert_by before x (y ∷ ys) = let later = y ∷ insert_by before x ys in cond (before x y) (x ∷ y ∷ ys) later

  -- how many of them then stand before x
  unfoldable pub place_by : (A → A → Bool) → A → List A → ℕ
  place_by before x [] = 0
  place_by before x (y ∷ ys) = let later = suc (place_by before x ys) in cond (before x y) 0 later

-- v at its place in an increasing list, unless it is there already
unfoldable pub insert_once : ℤ → List ℤ → List ℤ
insert_once v [] = v ∷ []
insert_once v (w ∷ ws) = let later = w ∷ insert_once v ws in cond (lt_z v w) (v ∷ w ∷ ws) (cond (lt_z w v) later (w ∷ ws))
