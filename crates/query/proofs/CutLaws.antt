-- When a cell can be cut, and at which line: an inside line closest to the middle of the longer side that has one.
use mathlib.Core.Path.{◌≡◌, refl}
use mathlib.Core.Bool.{not}
use mathlib.Core.Logic.{⊎_elim}
use mathlib.Core.List.Memᴰ
use mathlib.Core.List.{List, [], ◌∷◌, Memᴰ}
use Prim.Native.Nat.{◌≤◌, ◌<◌}
use native.Mathlib.Omega.{arith}
use lib.Dec.{T, T_not, ltb, eqb, ltb→lt, nltb→le, eqb_refl}
use lib.IntN.{ℤ}
use lib.Signed.{lt_z, ◌≤ℤ◌}
use Rattle.numbers.specs.Integer.{strictly_between}
use Rattle.numbers.specs.Lists.{non_empty}
use Rattle.numbers.proofs.Truth.{cond_ind, or_cases, or_left, or_right, nor_left, nor_right, nand_right}
use Rattle.numbers.proofs.Integer.{order}
use Rattle.numbers.proofs.Ranges.{strictly_range, range_strictly}
use Rattle.numbers.proofs.Members.{Strict, non_empty_some, some_non_empty, keep_test, keep_from, keep_all, least_member, least_le}
use Rattle.numbers.proofs.Orders.{ltb_strict, ltb_ties, lt_z_strict, strict_on, ties_on, lex_strict}
use Rattle.query.specs.Place.{Rect, Axis, x_axis, y_axis, low_edge, high_edge}
use Rattle.query.specs.Grid.{Grid, lines_along}
use Rattle.query.specs.Cut.{inside, can_cut, side, longer_side, cut_axis, off_middle, closer_line, middle_line, cut_line}
use Rattle.query.specs.Laws.{Inside, CutLineLaw, CutLaw}

-- ---- the line closest to the middle
module _ (lo hi : ℤ) where
  pub closer_line_strict : Strict (closer_line lo hi)
  unfolding closer_line
  closer_line_strict = lex_strict (strict_on (off_middle lo hi) ltb_strict) (ties_on (off_middle lo hi) ltb_ties) lt_z_strict

  pub middle_line_member : (vs : List ℤ) → T (non_empty vs) → Memᴰ (middle_line lo hi vs) vs
  unfolding middle_line
  middle_line_member [] t = absurd t
  middle_line_member (v ∷ vs) t = least_member (closer_line lo hi) closer_line_strict v vs

  pub middle_line_first : (vs : List ℤ) {v : ℤ} → Memᴰ v vs → T (not (closer_line lo hi v (middle_line lo hi vs)))
  unfolding middle_line
  middle_line_first [] m = absurd (Memᴰ.not-nil m)
  middle_line_first (v ∷ vs) m = least_le (closer_line lo hi) closer_line_strict v vs m

  not_closer : (v w : ℤ) → T (not (closer_line lo hi v w)) → off_middle lo hi w ≤ off_middle lo hi v
  unfolding closer_line
  not_closer v w t = nltb→le _ _ (nor_left (ltb (off_middle lo hi v) (off_middle lo hi w)) _ t)

  as_close : (v w : ℤ) → T (not (closer_line lo hi v w)) → off_middle lo hi v ≡ off_middle lo hi w → w ≤ℤ v
  unfolding closer_line
  as_close v w t e = let u : T (not (lt_z v w)) = nand_right (eqb (off_middle lo hi v) (off_middle lo hi w)) (lt_z v w)
      (nor_right (ltb (off_middle lo hi v) (off_middle lo hi w)) _ t) (rw e (eqb_refl (off_middle lo hi w))) in omega (arith, order)

-- ---- the lines inside
module _ (G : Grid) (axis : Axis) (r : Rect) where
  pub inside_from : {v : ℤ} → Memᴰ v (inside G axis r) → Inside G axis r v
  unfolding inside
  inside_from {v} m =
      let test = strictly_between (low_edge axis r) (high_edge axis r) in
      let range = strictly_range (low_edge axis r) (high_edge axis r) v (keep_test test (lines_along G axis) m) in
      record { line = keep_from test (lines_along G axis) m; above = range.0; below = range.1 }

  pub inside_all : {v : ℤ} → Inside G axis r v → Memᴰ v (inside G axis r)
  unfolding inside
  inside_all {v} h = keep_all (strictly_between (low_edge axis r) (high_edge axis r)) (lines_along G axis) h.line
      (range_strictly (low_edge axis r) (high_edge axis r) v h.above h.below)

  pub has_inside : {v : ℤ} → Inside G axis r v → T (non_empty (inside G axis r))
  has_inside h = some_non_empty (inside G axis r) (inside_all h)

-- ---- the axis that is cut
module _ (G : Grid) (r : Rect) where
  -- x where it has lines inside, unless y has them too and is longer; otherwise y
  cut_axis_ind : (Q : Axis → Type 0) → (T (non_empty (inside G x_axis r)) → (T (non_empty (inside G y_axis r)) → side y_axis r ≤ side x_axis r) → Q x_axis)
      → ((T (non_empty (inside G x_axis r)) → side x_axis r < side y_axis r) → (T (non_empty (inside G x_axis r)) → T (non_empty (inside G y_axis r))) →
      Q y_axis) → Q (cut_axis G r)
  unfolding cut_axis longer_side
  cut_axis_ind Q on-x on-y =
      cond_ind Q (non_empty (inside G x_axis r))
      (λ t. cond_ind Q (non_empty (inside G y_axis r))
      (λ u. cond_ind Q (ltb (side x_axis r) (side y_axis r)) (λ s. on-y (λ v. ltb→lt _ _ s) (λ v. u)) (λ s. on-x t (λ v. nltb→le _ _ s)))
      (λ u. on-x t (λ v. absurd (T_not (non_empty (inside G y_axis r)) u v))))
      (λ t. on-y (λ v. absurd (T_not (non_empty (inside G x_axis r)) t v)) (λ v. absurd (T_not (non_empty (inside G x_axis r)) t v)))

  pub cut_axis_inside : T (can_cut G r) → T (non_empty (inside G (cut_axis G r) r))
  unfolding can_cut
  cut_axis_inside t = cut_axis_ind (λ (axis : Axis). T (non_empty (inside G axis r))) (λ u h. u)
      (λ h u. ⊎_elim u (λ v. v) (or_cases (non_empty (inside G x_axis r)) (non_empty (inside G y_axis r)) t))

  pub cut_axis_longer : (axis : Axis) (v : ℤ) → Inside G axis r v → side axis r ≤ side (cut_axis G r) r
  cut_axis_longer x_axis v i = cut_axis_ind (λ (axis : Axis). side x_axis r ≤ side axis r) (λ t h. omega arith)
      (λ h t. omega (arith, h (has_inside G x_axis r i)))
  cut_axis_longer y_axis v i = cut_axis_ind (λ (axis : Axis). side y_axis r ≤ side axis r) (λ t h. h (has_inside G y_axis r i)) (λ h t. omega arith)

  pub cut_axis_x : (v : ℤ) → Inside G x_axis r v → side x_axis r ≡ side y_axis r → cut_axis G r ≡ x_axis
  cut_axis_x v i e = cut_axis_ind (λ (axis : Axis). axis ≡ x_axis) (λ t h. refl) (λ h t. absurd (omega (arith, h (has_inside G x_axis r i))))

  pub inside_can_cut : (axis : Axis) {v : ℤ} → Inside G axis r v → T (can_cut G r)
  unfolding can_cut
  inside_can_cut x_axis i = or_left (non_empty (inside G x_axis r)) (non_empty (inside G y_axis r)) (has_inside G x_axis r i)
  inside_can_cut y_axis i = or_right (non_empty (inside G x_axis r)) (non_empty (inside G y_axis r)) (has_inside G y_axis r i)

  pub cut_line_law : T (can_cut G r) → CutLineLaw G r
  unfolding cut_line
  cut_line_law t =
      let axis = cut_axis G r in
      let lo = low_edge axis r in
      let hi = high_edge axis r in
      let lines = inside G axis r in
      let at = middle_line lo hi lines in
      record {
        is_inside = inside_from G axis r (middle_line_member lo hi lines (cut_axis_inside t));
        closest = λ v i. not_closer lo hi v at (middle_line_first lo hi lines (inside_all G axis r i));
        smaller = λ v i. as_close lo hi v at (middle_line_first lo hi lines (inside_all G axis r i));
        longer_side_law = cut_axis_longer;
        x_on_equal_sides = cut_axis_x;
      }

pub cut_law : (G : Grid) (r : Rect) → CutLaw G r
cut_law G r = record {
  can_be_cut = (
    λ t. let m = non_empty_some (inside G (cut_axis G r) r) (cut_axis_inside G r t) in
        (cut_axis G r, m.0, inside_from G (cut_axis G r) r m.1),
    λ i. inside_can_cut G r i.0 i.2,
  );
  cut_line_holds = cut_line_law G r;
}
