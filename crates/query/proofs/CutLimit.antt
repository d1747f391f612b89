-- The cut limit: each cut takes one from (gaps across × gaps deep − 1) summed over the live cells, of which each has at least one.
use mathlib.Core.Path.{◌≡◌, refl, ap}
use mathlib.Core.Logic.{⊎_elim}
use mathlib.Core.List.{List, [], ◌∷◌, Memᴰ, Pairwise}
use Prim.Native.Nat.{ℕ, zero, suc, ◌+◌, ◌-◌, ◌*◌, ◌≤◌}
use native.Mathlib.Nat.{mul_comm}
use native.Mathlib.Omega.{arith}
use lib.Dec.{T}
use lib.IntN.{ℤ}
use lib.ListN.{length}
use lib.Signed.{◌<ℤ◌}
use Rattle.numbers.specs.Lists.{non_empty, sum_of, insert_by}
use Rattle.numbers.proofs.Truth.{and_left, or_cases}
use Rattle.numbers.proofs.Sums.{sum_of_cons, sum_of_nil, sum_of_keep_le, sum_of_insert_by}
use Rattle.numbers.proofs.Increasing.{inside_split}
use Rattle.query.specs.Place.{Rect, Axis, x_axis, y_axis, low_edge, high_edge}
use Rattle.query.specs.Grid.{Grid, lines_along}
use Rattle.query.specs.Problem.{Rules, Problem}
use Rattle.query.specs.Cut.{inside, can_cut}
use Rattle.query.specs.Order.{Cell, precedes, priced_key, cell_key, cell_before}
use Rattle.query.specs.Search.{Search, is_live, cell_of, start_best, start, cells_after, best_after, round_on, round, run}
use Rattle.query.specs.Laws.{Inside}
use Rattle.query.proofs.Axes.{other}
use Rattle.query.proofs.Split.{Parts, parts}
use Rattle.query.proofs.CellsAfter.{axis_of, line_of, first_of, second_of, after_is}
use Rattle.query.proofs.CutLaws.{cut_law}
use Rattle.query.proofs.SearchLaws.{partition_law}

-- the gaps of a cell along an axis, and how many cuts its lines allow
abbrev pub gaps_in : Grid → Axis → Rect → ℕ
gaps_in G axis r = length (inside G axis r) + 1

abbrev pub cuts_in : Grid → Rect → ℕ
cuts_in G r = gaps_in G x_axis r * gaps_in G y_axis r - 1

by_axis : (G : Grid) (cut : Axis) (r : Rect) → cuts_in G r ≡ gaps_in G cut r * gaps_in G (other cut) r - 1
unfolding other
by_axis G x_axis r = refl
by_axis G y_axis r = ap (λ (n : ℕ). n - 1) (mul_comm (gaps_in G x_axis r) (gaps_in G y_axis r))

-- and those that some cells allow
abbrev pub allowed : Grid → List Cell → ℕ
allowed G cells = sum_of (λ c. cuts_in G c.rect) cells

-- the parts of a cell allow one cut less than the cell
parts_cuts : (G : Grid) (increasing : (axis : Axis) → Pairwise ◌<ℤ◌ (lines_along G axis)) (cut : Axis) (v : ℤ) (r first second : Rect) →
    Parts cut v r first second → Inside G cut r v → cuts_in G first + cuts_in G second + 1 ≡ cuts_in G r
unfolding inside
parts_cuts G increasing cut v r first second split at =
    rw (
      by_axis G cut first,
      by_axis G cut second,
      by_axis G cut r,
      split.first_low,
      split.first_high,
      split.second_low,
      split.second_high,
      split.first_low_other,
      split.first_high_other,
      split.second_low_other,
      split.second_high_other,
    )
    (count _ _ _ _ (inside_split (low_edge cut r) v (high_edge cut r) (lines_along G cut) (increasing cut) at.line at.above at.below))
  where
    count : (g g₁ g₂ h : ℕ) → g ≡ g₁ + g₂ + 1 → (g₁ + 1) * (h + 1) - 1 + ((g₂ + 1) * (h + 1) - 1) + 1 ≡ (g + 1) * (h + 1) - 1
    count g g₁ g₂ h e = rw e (omega arith)

-- a cell that can be cut allows at least one cut
some_line : (ls : List ℤ) → T (non_empty ls) → 1 ≤ length ls
some_line [] t = absurd t
some_line (v ∷ vs) t = omega arith

cut_allowed : (G : Grid) (r : Rect) → T (can_cut G r) → 1 ≤ cuts_in G r
unfolding can_cut
cut_allowed G r t =
    let m = length (inside G x_axis r) in
    let n = length (inside G y_axis r) in
    ⊎_elim (λ u. two m n (omega (arith, some_line (inside G x_axis r) u))) (λ u. two m n (omega (arith, some_line (inside G y_axis r) u)))
    (or_cases (non_empty (inside G x_axis r)) (non_empty (inside G y_axis r)) t)
  where
    two : (m n : ℕ) → 1 ≤ m + n → 1 ≤ (m + 1) * (n + 1) - 1
    two m n h = omega arith

all_allowed : (G : Grid) (cells : List Cell) → ((c : Cell) → Memᴰ c cells → T (can_cut G c.rect)) → length cells ≤ allowed G cells
all_allowed G [] h = omega (arith, sum_of_nil (λ (c : Cell). cuts_in G c.rect))
all_allowed G (c ∷ cells) h = omega (
  arith,
  sum_of_cons (λ (c : Cell). cuts_in G c.rect) c cells,
  cut_allowed G c.rect (h c (Memᴰ.head refl)),
  all_allowed G cells (λ d m. h d (Memᴰ.tail m)),
)

module _ (P : Problem) (increasing : (axis : Axis) → Pairwise ◌<ℤ◌ (lines_along P.rules.grid axis)) where
  abbrev G : Grid
  G = P.rules.grid

  abbrev R : Rules
  R = P.rules

  -- cutting the first of some live cells
  after_allowed : (c : Cell) (others : List Cell) → Inside G (axis_of G c) c.rect (line_of G c) →
      allowed G (cells_after R c others) + 1 ≡ allowed G (c ∷ others)
  after_allowed c others at =
      rw (after_is R c others)
      (omega (
        arith,
        parts_cuts G increasing (axis_of G c) (line_of G c) c.rect (first_of G c) (second_of G c) (parts (axis_of G c) (line_of G c) c.rect) at,
        sum_of_insert_by (λ c. cuts_in G c.rect) cell_before (cell_of R (first_of G c)) (insert_by cell_before (cell_of R (second_of G c)) others),
        sum_of_insert_by (λ c. cuts_in G c.rect) cell_before (cell_of R (second_of G c)) others,
        sum_of_cons (λ c. cuts_in G c.rect) c others,
      ))

  round_allowed : (s : Search) (live : List Cell) → s.live ≡ live → ((c : Cell) → Memᴰ c live → T (can_cut G c.rect)) →
      (round_on R s live).cuts + allowed G (round_on R s live).live ≤ s.cuts + allowed G s.live
  unfolding round_on
  round_allowed s [] e can = omega arith
  round_allowed s (c ∷ others) e can = rw e (omega (
    arith,
    after_allowed c others ((cut_law G c.rect).cut_line_holds (can c (Memᴰ.head refl))).is_inside,
    sum_of_keep_le (λ c. cuts_in G c.rect) (is_live G (best_after R s.best c)) (cells_after R c others),
  ))

  live_can : (n : ℕ) (c : Cell) → Memᴰ c (run P n).live → T (can_cut G c.rect)
  unfolding is_live
  live_can n c m = and_left (can_cut G c.rect) (precedes (cell_key c) (priced_key (run P n).best)) ((partition_law P n).live_are_live c m)

  -- the cuts made and the cuts that the live cells still allow are together at most those that the area allows
  run_allowed : (n : ℕ) → (run P n).cuts + allowed G (run P n).live ≤ cuts_in G P.area
  unfolding run round start
  run_allowed zero = omega (
    arith,
    sum_of_keep_le (λ c. cuts_in G c.rect) (is_live G (start_best P)) (cell_of R P.area ∷ []),
    sum_of_cons (λ (c : Cell). cuts_in G c.rect) (cell_of R P.area) [],
    sum_of_nil (λ (c : Cell). cuts_in G c.rect),
  )
  run_allowed (suc n) = omega (arith, run_allowed n, round_allowed (run P n) (run P n).live refl (live_can n))

  -- and each live cell allows one
  pub run_limit : (n : ℕ) → (run P n).cuts + length (run P n).live ≤ cuts_in G P.area
  run_limit n = omega (arith, run_allowed n, all_allowed G (run P n).live (live_can n))
