-- The rows of columns, one after another: a pass over the columns that adds up a figure of each row has the sum over the rows passed.
use mathlib.Core.Path.{◌≡◌}
use mathlib.Core.List.{List, [], ◌∷◌, ◌++◌}
use Prim.Native.Nat.{ℕ, zero, suc, ◌+◌, ◌*◌, ◌≤◌, ◌<◌}
use native.Mathlib.Numerals.{add-one}
use native.Mathlib.Omega.{arith}
use lib.IntN.{ℤ}
use Rattle.numbers.specs.Lists.{sum_of}
use Rattle.columns.specs.Objects.{Object}
use Rattle.columns.specs.ObjectColumns.{object_at, objects_in}
use Rattle.columns.proofs.ColumnLaws.{objects_in_none, objects_in_more}

module _ (f : Object → ℕ) where
  sum_snoc : (xs : List Object) (x : Object) → sum_of f (xs ++ x ∷ []) ≡ sum_of f xs + f x
  unfolding sum_of
  sum_snoc [] x = omega arith
  sum_snoc (y ∷ ys) x = omega (arith, sum_snoc ys x)

  module _ (columns : List ℤ) where
    pub sum_none : sum_of f (objects_in columns 0) ≡ 0
    unfolding sum_of
    sum_none = rw objects_in_none

    pub sum_more : (i : ℕ) → sum_of f (objects_in columns (i + 1)) ≡ sum_of f (objects_in columns i) + f (object_at columns i)
    sum_more i = rw (objects_in_more columns i) (sum_snoc (objects_in columns i) (object_at columns i))

-- a pass over the rows that has added up f of i rows, each at most k
pub record Passed (f : Object → ℕ) (k : ℕ) (columns : List ℤ) (sum i : ℕ) : Type 0 where
  pub so_far : sum ≡ sum_of f (objects_in columns i)
  pub most : sum ≤ i * k

module _ (f : Object → ℕ) (k : ℕ) (columns : List ℤ) where
  pub passed_none : Passed f k columns 0 0
  passed_none = record { so_far = omega (arith, sum_none f columns); most = omega arith }

  pub passed_more : {sum i : ℕ} (v : ℕ) → Passed f k columns sum i → v ≡ f (object_at columns i) → v ≤ k → Passed f k columns (sum + v) (i + 1)
  passed_more {sum} {i} v p e m = record { so_far = omega (arith, sum_more f columns i); most = omega arith }

-- the sum over rows that are each at most k
pub sum_most : (f : Object → ℕ) (k : ℕ) (columns : List ℤ) (n : ℕ) → ((i : ℕ) → i < n → f (object_at columns i) ≤ k)
    → sum_of f (objects_in columns n) ≤ n * k
sum_most f k columns zero each = omega (arith, sum_none f columns)
sum_most f k columns (suc n) each =
    let p = sum_most f k columns n (λ i h. each i (omega arith)) in
    let q = each n (omega arith) in
    rw (← add-one n) (omega (arith, sum_more f columns n))
