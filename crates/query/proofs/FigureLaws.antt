-- The figures of a run: low is at most every cost and never falls, high never rises, and a finished search's place is the best of the area.
use mathlib.Core.Path.{◌≡◌, refl, sym, subst}
use mathlib.Core.Bool.{not}
use mathlib.Core.Logic.{⊎_elim}
use mathlib.Core.List.Memᴰ
use mathlib.Core.List.{List, [], ◌∷◌, map, Memᴰ}
use Prim.Native.Nat.{◌≤◌}
use native.Mathlib.Omega.{arith}
use lib.Dec.{T}
use lib.IntN.{ℤ, pos}
use lib.Signed.{lt_z, ◌≤ℤ◌}
use Rattle.numbers.proofs.Integer.{order}
use Rattle.numbers.proofs.Members.{keep_from, least_member, least_le}
use Rattle.numbers.proofs.Orders.{lt_z_strict}
use Rattle.query.specs.Place.{Place, Rect, In, NonEmpty}
use Rattle.query.specs.Grid.{Grid}
use Rattle.query.specs.Problem.{Rules, Problem}
use Rattle.query.specs.Order.{Priced, Cell, better}
use Rattle.query.specs.Search.{Search, is_live, priced_at, cells_after, best_after, round_on}
use Rattle.query.specs.Figures.{high, low}
use Rattle.query.specs.Laws.{CutLaw, Inside}
use Rattle.query.proofs.KeyOrder.{better_strict, not_better_cost}
use Rattle.query.proofs.Split.{PartOf, part_non_empty, part_low_in, part_high_in}
use Rattle.query.proofs.CellsAfter.{axis_of, line_of, first_of, second_of, after_cases}
use Rattle.query.proofs.Lawful.{Lawful, OnLines}
use Rattle.query.proofs.Invariant.{NotBetter, Ok, taken_cut, is_first_part, is_second_part, best_kept, best_from}

-- ---- low is at most high and each live bound
pub low_le_high : (s : Search) → low s ≤ℤ pos (high s)
unfolding low
low_le_high s = omega (arith, order, least_le lt_z lt_z_strict (pos (high s)) (map (λ c. c.bound) s.live) (Memᴰ.head refl))

pub low_le_bound : (s : Search) (c : Cell) → Memᴰ c s.live → low s ≤ℤ c.bound
unfolding low
low_le_bound s c m = omega (arith, order, least_le lt_z lt_z_strict (pos (high s)) (map (λ c. c.bound) s.live) (Memᴰ.tail (Memᴰ.map (λ c. c.bound) m)))

-- what is at most high and each live bound is at most low
pub le_low : (s : Search) (z : ℤ) → z ≤ℤ pos (high s) → ((c : Cell) → Memᴰ c s.live → z ≤ℤ c.bound) → z ≤ℤ low s
unfolding low
le_low s z h k = go (low s) (least_member lt_z lt_z_strict (pos (high s)) (map (λ c. c.bound) s.live))
  where
    go : (l : ℤ) → Memᴰ l (pos (high s) ∷ map (λ c. c.bound) s.live) → z ≤ℤ l
    go l (Memᴰ.head e) = omega (arith, order)
    go l (Memᴰ.tail m) = let w = Memᴰ.of_map (λ (c : Cell). c.bound) s.live m in subst (λ (y : ℤ). z ≤ℤ y) w.2 (k w.0 w.1)

module _ (P : Problem) (lawful : Lawful P) (cut_law : (r : Rect) → CutLaw P.rules.grid r) where
  abbrev G : Grid
  G = P.rules.grid

  abbrev R : Rules
  R = P.rules

  -- ---- each point of the area costs at least low
  pub low_le_cost : (s : Search) → Ok P s.best s.live → (p : Place) → In P.area p → low s ≤ℤ pos (R.price p)
  low_le_cost s ok p h = go (lawful.crossing p h)
    where
      go : ((q : Place) × In P.area q × OnLines G q × T (not (better (priced_at R p) (priced_at R q)))) → low s ≤ℤ pos (R.price p)
      go w = let cheaper = not_better_cost (priced_at R p) (priced_at R w.0) w.3 in
          ⊎_elim
          (λ k. omega (arith, order, low_le_high s, not_better_cost (priced_at R w.0) s.best k))
          (λ v. omega (arith, order, low_le_bound s v.0 v.1, (ok.cells v.0 v.1).bound_is, lawful.below v.0.rect w.0 v.2))
          (ok.cover w.0 w.1 w.2)

  -- ---- one more round
  module _ (s : Search) (c : Cell) (others : List Cell) (live : s.live ≡ c ∷ others) (ok : Ok P s.best (c ∷ others)) where
    low_le_taken : low s ≤ℤ R.bound c.rect
    low_le_taken = subst (λ (z : ℤ). low s ≤ℤ z) (ok.cells c (Memᴰ.head refl)).bound_is
        (low_le_bound s c (subst (Memᴰ c) (sym live) (Memᴰ.head refl)))

    low_le_part : (q : Rect) → PartOf (axis_of G c) (line_of G c) c.rect q → low s ≤ℤ R.bound q
    low_le_part q part = omega (
      arith,
      order,
      low_le_taken,
      lawful.part c.rect q (part_non_empty (axis_of G c) (line_of G c) c.rect cut.above cut.below q part full)
          (part_low_in (axis_of G c) (line_of G c) c.rect cut.above cut.below q part full)
          (part_high_in (axis_of G c) (line_of G c) c.rect cut.above cut.below q part full),
    )
      where
        cut : Inside G (axis_of G c) c.rect (line_of G c)
        cut = (taken_cut P lawful cut_law s.best c others ok).is_inside

        full : NonEmpty c.rect
        full = (ok.cells c (Memᴰ.head refl)).full

    -- each cell after the cut has a bound of at least low
    low_le_after : (d : Cell) → Memᴰ d (cells_after R c others) → low s ≤ℤ d.bound
    low_le_after d m =
        ⊎_elim (λ e. subst (λ (d : Cell). low s ≤ℤ d.bound) (sym e) (low_le_part (first_of G c) (is_first_part P lawful cut_law s.best c others ok)))
        (⊎_elim (λ e. subst (λ (d : Cell). low s ≤ℤ d.bound) (sym e) (low_le_part (second_of G c) (is_second_part P lawful cut_law s.best c others ok)))
        (λ n. low_le_bound s d (subst (Memᴰ d) (sym live) (Memᴰ.tail n))))
        (after_cases R c others d m)

    low_le_best : low s ≤ℤ pos (best_after R s.best c).cost
    low_le_best =
        ⊎_elim (λ e. subst (λ (b : Priced). low s ≤ℤ pos b.cost) (sym e) (low_le_high s))
        (λ w. subst (λ (b : Priced). low s ≤ℤ pos b.cost) w.2 (omega (arith, order, low_le_taken, lawful.below c.rect w.0 w.1)))
        (best_from P lawful cut_law s.best c others ok)

  pub low_rises : (s : Search) (live : List Cell) → s.live ≡ live → Ok P s.best live → low s ≤ℤ low (round_on R s live)
  unfolding round_on
  low_rises s [] e ok = omega (arith, order)
  low_rises s (c ∷ others) e ok = le_low (round_on R s (c ∷ others)) (low s) (low_le_best s c others e ok)
      (λ d m. low_le_after s c others e ok d (keep_from (is_live G (best_after R s.best c)) (cells_after R c others) m))

  pub high_falls : (s : Search) (live : List Cell) → Ok P s.best live → high (round_on R s live) ≤ high s
  unfolding round_on
  high_falls s [] ok = omega arith
  high_falls s (c ∷ others) ok = not_better_cost s.best (best_after R s.best c) (best_kept P lawful cut_law s.best c others ok)

  -- ---- a finished search
  -- where no cell is live, no point of the area is better than the best
  pub done_best : (s : Search) → Ok P s.best s.live → s.live ≡ [] → (p : Place) → In P.area p → NotBetter (priced_at R p) s.best
  done_best s ok e p h = go (lawful.crossing p h)
    where
      go : ((q : Place) × In P.area q × OnLines G q × T (not (better (priced_at R p) (priced_at R q)))) → NotBetter (priced_at R p) s.best
      go w = better_strict.chain s.best (priced_at R w.0) (priced_at R p)
          (⊎_elim (λ k. k) (λ v. absurd (Memᴰ.not-nil (subst (Memᴰ v.0) e v.1))) (ok.cover w.0 w.1 w.2)) w.3
