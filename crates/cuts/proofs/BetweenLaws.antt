-- Whether a cell can be cut, as the code finds it: along an axis some line lies strictly between the edges, and so the first above the low one.
use mathlib.Core.Path.{◌≡◌, sym, ◌∙◌}
use mathlib.Core.Bool.{Bool, true, false}
use mathlib.Core.Logic.{⊎_elim}
use mathlib.Core.List.{List}
use Prim.Native.Nat.{ℕ, ◌≤◌, ◌<◌}
use native.Mathlib.Omega.{arith}
use borrow.Author.Tests.{le-ltb}
use lib.Dec.{T, ltb, ltb→lt, nltb→le}
use lib.IntN.{ℤ, pos, ◌+ℤ◌}
use lib.ListN.{length, get_or}
use lib.Signed.{lt_z, ◌<ℤ◌}
use Rattle.std.specs.Cmp.{both_ways}
use Rattle.numbers.specs.Integer.{strictly_between}
use Rattle.numbers.specs.Lists.{keep, non_empty}
use Rattle.numbers.proofs.Truth.{test, holds, fails}
use Rattle.numbers.proofs.Words.{is_true}
use Rattle.numbers.proofs.Integer.{order, add_nat}
use Rattle.numbers.proofs.Ranges.{strictly_range, range_strictly}
use Rattle.numbers.proofs.Members.{non_empty_some, some_non_empty, keep_test, keep_from, keep_all}
use Rattle.query.specs.Place.{Rect, x_axis}
use Rattle.query.specs.Grid.{Grid}
use Rattle.query.specs.Cut.{inside, can_cut}
use Rattle.lines.specs.LineRecord.{LinesInOrder, FirstAtLeast}
use Rattle.lines.proofs.Indexed.{member_at, index_of, front_le}
use Rattle.cuts.proofs.CutRecordLaws.{can_cut_is}

-- ---- lines along one axis
-- so many of them, `i`, are below the number behind the low edge
module _ (ls : List ℤ) (lo hi : ℤ) (i : ℕ) (ordered : LinesInOrder ls) {next : ℤ} (e : next ≡ lo +ℤ pos 1) (found : FirstAtLeast ls next i) where
  first_lies : T (non_empty (keep (strictly_between lo hi) ls)) → (i < length ls) × (get_or ls i (pos 0) <ℤ hi)
  first_lies t =
      let m = non_empty_some (keep (strictly_between lo hi) ls) t in
      let inside = strictly_range lo hi m.0 (keep_test (strictly_between lo hi) ls m.1) in
      let at = index_of (pos 0) ls (keep_from (strictly_between lo hi) ls m.1) in
      let behind : i ≤ at.0 = ⊎_elim
      (λ u. let below = found.before at.0 (ltb→lt at.0 i u) in absurd (omega (arith, order, inside, at.2, below, e, add_nat lo (pos 1))))
      (λ u. nltb→le at.0 i u) (test (ltb at.0 i)) in
      (omega (arith, at.1), omega (arith, order, inside, at.2, front_le ls ordered.increasing i at.0 behind at.1))

  some_lies : i < length ls → get_or ls i (pos 0) <ℤ hi → T (non_empty (keep (strictly_between lo hi) ls))
  some_lies here h =
      let low : lo <ℤ get_or ls i (pos 0) = omega (arith, order, found.after i (omega arith) here, e, add_nat lo (pos 1)) in
      some_non_empty _ (keep_all (strictly_between lo hi) ls (member_at (pos 0) ls i here) (range_strictly lo hi _ low h))

  pub first_between : i < length ls → lt_z (get_or ls i (pos 0)) hi ≡ non_empty (keep (strictly_between lo hi) ls)
  first_between here = both_ways _ _ (λ t. holds _ (some_lies here (record { lt = is_true _ t }))) (λ t. holds _ (first_lies (is_true _ t)).1.lt)

  pub none_between : length ls ≤ i → ltb i (length ls) ≡ non_empty (keep (strictly_between lo hi) ls)
  none_between behind = le-ltb i (length ls) behind ∙ sym (fails _ (⊎_elim (λ t. absurd (omega (arith, (first_lies t).0))) (λ t. t) (test _)))

-- ---- both axes
-- whether a vertical line lies between the edges in x
module _ (G : Grid) (r : Rect) {lo hi : ℤ} (low : lo ≡ r.xlo) (high : hi ≡ r.xhi) {across : Bool}
    (e : across ≡ non_empty (keep (strictly_between lo hi) G.vertical)) where
  across_is : across ≡ non_empty (inside G x_axis r)
  unfolding inside
  across_is = e ∙ (λ k. non_empty (keep (strictly_between (low k) (high k)) G.vertical))

  pub cut_across : across ≡ true → across ≡ can_cut G r
  cut_across t = rw (can_cut_is G r, sym across_is, t)

  -- and if none does, whether a horizontal one lies between the edges in y
  module _ (none : across ≡ false) {lo₂ hi₂ : ℤ} (low₂ : lo₂ ≡ r.ylo) (high₂ : hi₂ ≡ r.yhi) {deep : Bool}
      (e₂ : deep ≡ non_empty (keep (strictly_between lo₂ hi₂) G.horizontal)) where
    pub cut_deep : deep ≡ can_cut G r
    unfolding inside
    cut_deep = rw (can_cut_is G r, sym across_is, none) (e₂ ∙ (λ k. non_empty (keep (strictly_between (low₂ k) (high₂ k)) G.horizontal)))
