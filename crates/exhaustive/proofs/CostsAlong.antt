-- The costs along a vertical line in an array, one line after another.
use mathlib.Core.Path.{◌≡◌, refl}
use mathlib.Core.List.{List, [], ◌∷◌, map, ◌++◌}
use Prim.Native.Nat.{ℕ, zero, suc, ◌+◌, ◌≤◌, ◌<◌}
use native.Mathlib.Omega.{arith}
use lib.IntN.{ℤ, pos}
use lib.ListN.{length, get_or, set, drop, length-append, length-map, length-drop, get_or-map, get_or-append}
use lib.Seq.{take_all}
use Rattle.columns.specs.Objects.{Pricing}
use Rattle.pricing.specs.ObjectFigures.{cost_of}
use Rattle.numbers.proofs.Shifted.{over, over_set}
use Rattle.exhaustive.specs.Cheapest.{costs_along}

-- an element of a mapped list, whatever is read past its end
map_at : {A B : Type 0} (f : A → B) (l : List A) (i : ℕ) (d : A) (e : B) → i < length l → get_or (map f l) i e ≡ f (get_or l i d)
map_at f [] i d e h = absurd (omega arith)
map_at f (x ∷ xs) zero d e h = refl
map_at f (x ∷ xs) (suc i) d e h = map_at f xs i d e (omega arith)

module _ (P : Pricing) (ls : List ℤ) (v : ℤ) (old : List ℕ) where
  abbrev price : ℤ → ℕ
  price h = cost_of P (record { x = v; y = h })

  -- the array when the costs of the first j lines are written
  abbrev pub costs_to : ℕ → List ℕ
  costs_to j = over (map price ls) j old

  pub costs_none : costs_to 0 ≡ old
  costs_none = refl

  pub costs_more : {costs : List ℕ} (j cost : ℕ) → j < length ls → j < length old → costs ≡ costs_to j → cost ≡ price (get_or ls j (pos 0))
      → set costs j cost ≡ costs_to (j + 1)
  costs_more {costs} j cost h k e f =
      rw (e, f, ← get_or-map price ls j (pos 0)) (over_set (map price ls) j old (price (pos 0)) (omega (arith, length-map ls price)) k)

  costs_is : costs_along P ls v old ≡ map price ls ++ drop (length ls) old
  unfolding costs_along
  costs_is = refl

  pub costs_all : (j : ℕ) → j ≡ length ls → costs_to j ≡ costs_along P ls v old
  costs_all j e = rw (e, costs_is, take_all (length ls) (map price ls) (omega (arith, length-map ls price)))

  pub costs_length : length ls ≤ length old → length (costs_along P ls v old) ≡ length old
  costs_length h = rw costs_is (simp (length-append, length-map, length-drop) (omega arith))

  pub costs_at_lem : (j : ℕ) → j < length ls → get_or (costs_along P ls v old) j 0 ≡ price (get_or ls j (pos 0))
  costs_at_lem j h =
      rw (costs_is, get_or-append (map price ls) (drop (length ls) old) 0 j (omega (arith, length-map ls price)), map_at price ls j (pos 0) 0 h)
