-- What `change::stop_in_range` owes.
use mathlib.Core.Path.{◌≡◌, sym, ◌∙◌}
use mathlib.Core.Bool.{true}
use mathlib.Core.List.{[], ◌∷◌}
use Prim.Native.Nat.{ℕ, ◌<◌}
use native.Mathlib.Omega.{arith}
use lib.Dec.{T, leb, leb→le, not_T}
use lib.IntN.{ℤ, pos}
use lib.Signed.{le_z}
use Rattle.numbers.specs.Integer.{between}
use Rattle.numbers.proofs.Integer.{order}
use Rattle.numbers.proofs.Truth.{fails, and_left, and_right}
use Rattle.query.specs.Range.{visits_limit}
use Rattle.job_line.specs.Kinds.{row, stop, coordinates, visits, in_range, in_ranges}
use Rattle.change.proofs.stop_in_range.Goals as goal

-- too many visits, as the code tests them and by the ranges of a line
many_visits : (x y : ℤ) (n : ℕ) → visits_limit < n → leb n visits_limit ≡ in_ranges (row stop).ranges (x ∷ y ∷ pos n ∷ [])
unfolding in_ranges in_range between
many_visits x y n h =
    fails (leb n visits_limit) (not_T (leb n visits_limit) (λ t. omega (arith, leb→le n visits_limit t)))
    ∙ sym (fails _ (not_T (in_ranges (row stop).ranges (x ∷ y ∷ pos n ∷ [])) (λ t. go (and_right (in_range coordinates y)
    (in_ranges (visits ∷ []) (pos n ∷ [])) (and_right (in_range coordinates x) (in_ranges (coordinates ∷ visits ∷ []) (y ∷ pos n ∷ [])) t)))))
  where
    go : T (in_ranges (visits ∷ []) (pos n ∷ [])) → ⊥
    go t =
        let ranged : T (in_range visits (pos n)) = and_left (in_range visits (pos n)) true t in
        let few : T (le_z (pos n) (pos visits_limit)) = and_right (le_z (pos 1) (pos n)) (le_z (pos n) (pos visits_limit)) ranged in
        omega (arith, order)

pub returns-else-stop : goal.returns-else-stop
returns-else-stop c = many_visits _ _ _ c.if-stop.false
