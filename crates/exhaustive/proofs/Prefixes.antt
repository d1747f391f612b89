-- Sums of the first numbers of a list, and what one larger number changes.
use mathlib.Core.Path.{◌≡◌, refl}
use mathlib.Core.List.{List, [], ◌∷◌}
use mathlib.Core.Logic.{⊎_elim}
use Prim.Native.Nat.{ℕ, zero, suc, ◌+◌, ◌*◌, ◌≤◌, ◌<◌}
use native.Mathlib.Numerals.{add-one}
use native.Mathlib.Omega.{arith}
use lib.Dec.{ltb, ltb→lt, nltb→le}
use lib.ListN.{length, get_or, set}
use lib.Seq.{get_or-set_same, get_or-set_other}
use Rattle.numbers.proofs.Truth.{test}
use Rattle.exhaustive.specs.Ramps.{prefix_sum}

pub prefix_none : (xs : List ℕ) → prefix_sum xs 0 ≡ 0
unfolding prefix_sum
prefix_none xs = refl

pub prefix_more : (xs : List ℕ) (n : ℕ) → prefix_sum xs (n + 1) ≡ prefix_sum xs n + get_or xs n 0
unfolding prefix_sum
prefix_more xs n = rw (add-one n)

pub prefix_most : (xs : List ℕ) (m : ℕ) → ((k : ℕ) → get_or xs k 0 ≤ m) → (n : ℕ) → prefix_sum xs n ≤ n * m
unfolding prefix_sum
prefix_most xs m each zero = omega arith
prefix_most xs m each (suc n) = omega (arith, each n, prefix_most xs m each n)

module _ (xs : List ℕ) (k v : ℕ) where
  pub prefix_before : (n : ℕ) → n ≤ k → prefix_sum (set xs k v) n ≡ prefix_sum xs n
  unfolding prefix_sum
  prefix_before zero h = refl
  prefix_before (suc n) h = let e : get_or (set xs k v) n 0 ≡ get_or xs n 0 = get_or-set_other xs k n v 0 (λ q. omega arith) in
      omega (arith, e, prefix_before n (omega arith))

  module _ (w : ℕ) (h : k < length xs) (e : v ≡ get_or xs k 0 + w) where
    pub prefix_behind : (n : ℕ) → k < n → prefix_sum (set xs k v) n ≡ prefix_sum xs n + w
    unfolding prefix_sum
    prefix_behind zero l = absurd (omega arith)
    prefix_behind (suc n) l =
        ⊎_elim (λ t. let q : get_or (set xs k v) n 0 ≡ get_or xs n 0 = get_or-set_other xs k n v 0 (λ r. omega (arith, ltb→lt)) in
        omega (arith, q, prefix_behind n (ltb→lt k n t)))
        (λ t. let q : k ≡ n = omega (arith, nltb→le) in rw (← q) (omega (arith, get_or-set_same xs k v 0 h, prefix_before k (omega arith))))
        (test (ltb k n))

-- what holds of every number holds of every number after one is replaced
pub set_each : (P : ℕ → Type 0) (xs : List ℕ) (k v : ℕ) → P v → ((i : ℕ) → P (get_or xs i 0)) → (i : ℕ) → P (get_or (set xs k v) i 0)
set_each P [] k v p each i = each i
set_each P (x ∷ xs) zero v p each zero = p
set_each P (x ∷ xs) zero v p each (suc i) = each (suc i)
set_each P (x ∷ xs) (suc k) v p each zero = each zero
set_each P (x ∷ xs) (suc k) v p each (suc i) = set_each P xs k v p (λ j. each (suc j)) i
