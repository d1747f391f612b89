-- The search keeps the live cells of the partition, in the order in which rounds take them.
use mathlib.Core.Path.{◌≡◌, refl, sym, ap, subst}
use mathlib.Core.Bool.{Bool, not}
use mathlib.Core.Logic.{⊎_elim}
use mathlib.Core.List.Memᴰ
use mathlib.Core.List.{List, [], ◌∷◌, ◌++◌, map, Memᴰ}
use mathlib.Core.List.Pairwise
use mathlib.Core.List.{append-nil, rel_of_Pairwise-cons}
use Prim.Native.Nat.{ℕ, zero, suc}
use lib.Dec.{T, T_prop}
use lib.ListN.{take}
use Rattle.numbers.specs.Lists.{keep}
use Rattle.numbers.proofs.Truth.{test, nand_right, and_fails_left, and_fails_right}
use Rattle.numbers.proofs.Members.{keep_test, keep_all, keep_sorted, insert_by_sorted, irrefl}
use Rattle.query.specs.Place.{Place, In}
use Rattle.query.specs.Grid.{Grid}
use Rattle.query.specs.Problem.{Rules, Problem}
use Rattle.query.specs.Cut.{can_cut, cut_line, new_corners}
use Rattle.query.specs.Order.{Priced, Cell, precedes, priced_key, cell_key, better, cell_before, CellsInOrder}
use Rattle.query.specs.Search.{Search, is_live, cell_of, start_best, start, cells_after, best_after, round_on, round, run}
use Rattle.query.specs.Partition.{cut_up, not_live, dead, partition}
use Rattle.query.specs.History.{cell_cut, cuts_made}
use Rattle.query.specs.Laws.{TakenLaw, PartitionLaw}
use Rattle.query.proofs.KeyOrder.{precedes_strict, better_strict, cell_before_strict}
use Rattle.query.proofs.Best.{best_of_old}
use Rattle.query.proofs.CellsAfter.{Within, after_within}

kept_in_order : (p : Cell → Bool) (cells : List Cell) → CellsInOrder cells → CellsInOrder (keep p cells)
kept_in_order p cells s = keep_sorted (λ c d. T (not (cell_before d c))) (λ c d. T_prop (not (cell_before d c))) p cells s

module _ (P : Problem) where
  abbrev G : Grid
  G = P.rules.grid

  abbrev R : Rules
  R = P.rules

  after_in_order : (c : Cell) (others : List Cell) → CellsInOrder others → CellsInOrder (cells_after R c others)
  unfolding cells_after
  after_in_order c others s = insert_by_sorted cell_before cell_before_strict _ _ (insert_by_sorted cell_before cell_before_strict _ others s)

  round_in_order : (s : Search) (live : List Cell) → s.live ≡ live → CellsInOrder live → CellsInOrder (round_on R s live).live
  unfolding round_on
  round_in_order s [] e o = subst CellsInOrder (sym e) o
  round_in_order s (c ∷ others) e o = kept_in_order (is_live G (best_after R s.best c)) (cells_after R c others) (after_in_order c others (Pairwise.of_cons o))

  pub run_in_order : (n : ℕ) → CellsInOrder (run P n).live
  unfolding run round start
  run_in_order zero = kept_in_order (is_live G (start_best P)) (cell_of R P.area ∷ [])
      (insert_by_sorted cell_before cell_before_strict (cell_of R P.area) [] Pairwise.nil)
  run_in_order (suc n) = round_in_order (run P n) (run P n).live refl (run_in_order n)

  -- ---- a cell that is not live for one best is not live for a later one
  still_dead : (best best' : Priced) → T (not (better best best')) → (c : Cell) → T (not (is_live G best c)) → T (not (is_live G best' c))
  unfolding is_live better
  still_dead best best' h c t =
      ⊎_elim (λ can. and_fails_right (can_cut G c.rect) (precedes (cell_key c) (priced_key best'))
      (precedes_strict.chain (priced_key best') (priced_key best) (cell_key c) h
      (nand_right (can_cut G c.rect) (precedes (cell_key c) (priced_key best)) t can)))
      (and_fails_left (can_cut G c.rect) (precedes (cell_key c) (priced_key best'))) (test (can_cut G c.rect))

  round_best : (s : Search) (live : List Cell) → T (not (better s.best (round_on R s live).best))
  unfolding round_on best_after
  round_best s [] = irrefl better_strict s.best
  round_best s (c ∷ others) = best_of_old R s.best (new_corners (cut_line G c.rect).axis (cut_line G c.rect).at c.rect)

  run_best : (n : ℕ) → T (not (better (run P n).best (run P (suc n)).best))
  unfolding run round
  run_best n = round_best (run P n) (run P n).live

  -- ---- the live cells are live, the dead ones are not
  not_live_test : (best : Priced) (cells : List Cell) (c : Cell) → Memᴰ c (not_live G best cells) → T (not (is_live G best c))
  unfolding not_live
  not_live_test best cells c m = keep_test (λ c. not (is_live G best c)) cells m

  dead_are_not : (n : ℕ) (c : Cell) → Memᴰ c (dead P n) → T (not (is_live G (run P n).best c))
  unfolding dead
  dead_are_not zero c m = not_live_test (run P zero).best (cell_of R P.area ∷ []) c m
  dead_are_not (suc n) c m = ⊎_elim (not_live_test (run P (suc n)).best (cut_up R (run P n).live) c)
      (λ k. still_dead (run P n).best (run P (suc n)).best (run_best n) c (dead_are_not n c k))
      (Memᴰ.append_cases (not_live G (run P (suc n)).best (cut_up R (run P n).live)) m)

  round_live : (s : Search) (live : List Cell) → s.live ≡ live → ((c : Cell) → Memᴰ c s.live → T (is_live G s.best c)) → (c : Cell) →
      Memᴰ c (round_on R s live).live → T (is_live G (round_on R s live).best c)
  unfolding round_on
  round_live s [] e h c m = h c m
  round_live s (d ∷ others) e h c m = keep_test (is_live G (best_after R s.best d)) (cells_after R d others) m

  live_are_live : (n : ℕ) (c : Cell) → Memᴰ c (run P n).live → T (is_live G (run P n).best c)
  unfolding run round start
  live_are_live zero c m = keep_test (is_live G (start_best P)) (cell_of R P.area ∷ []) m
  live_are_live (suc n) c m = round_live (run P n) (run P n).live refl (live_are_live n) c m

  -- ---- the partition covers the area
  -- a point of some cells is in one that is live or in one that is not
  sorted_out : (best : Priced) (cells earlier : List Cell) (p : Place) → Within p cells →
      Within p (keep (is_live G best) cells ++ (not_live G best cells ++ earlier))
  unfolding not_live
  sorted_out best cells earlier p w =
      ⊎_elim (λ t. (w.0, Memᴰ.append_left (not_live G best cells ++ earlier) (keep_all (is_live G best) cells w.1 t), w.2))
      (λ t. (w.0, Memᴰ.append_right (keep (is_live G best) cells) (Memᴰ.append_left earlier (keep_all (λ c. not (is_live G best c)) cells w.1 t)), w.2))
      (test (is_live G best w.0))

  round_covers : (s : Search) (live earlier : List Cell) (p : Place) → s.live ≡ live → Within p (live ++ earlier) →
      Within p ((round_on R s live).live ++ (not_live G (round_on R s live).best (cut_up R live) ++ earlier))
  unfolding round_on cut_up not_live
  round_covers s [] earlier p e w = rw e w
  round_covers s (c ∷ others) earlier p e w =
      ⊎_elim (λ m. sorted_out best (cells_after R c others) earlier p (after_within R c others p (w.0, m, w.2)))
      (λ m. (w.0, Memᴰ.append_right (keep (is_live G best) (cells_after R c others)) (Memᴰ.append_right (not_live G best (cells_after R c others)) m), w.2))
      (Memᴰ.append_cases (c ∷ others) w.1)
    where
      best : Priced
      best = best_after R s.best c

  covers : (n : ℕ) (p : Place) → In P.area p → Within p (partition P n)
  unfolding partition dead run round start
  covers zero p h = rw (append-nil (not_live G (start_best P) (cell_of R P.area ∷ []))) at (sorted_out (start_best P) (cell_of R P.area ∷ []) [] p
      (cell_of R P.area, Memᴰ.head refl, h))
  covers (suc n) p h = round_covers (run P n) (run P n).live (dead P n) p refl (covers n p h)

  pub partition_law : (n : ℕ) → PartitionLaw P n
  partition_law n = record { live_are_live = live_are_live n; dead_are_not = dead_are_not n; covers = covers n }

  -- ---- the cell that a round takes
  pub taken_law : (n : ℕ) (c : Cell) (others : List Cell) → (run P n).live ≡ c ∷ others → TakenLaw P n c
  unfolding cuts_made
  taken_law n c others e = record {
    is_cut = ap (λ (live : List Cell). cuts_made P n ++ map (cell_cut G) (take 1 live)) e;
    is_live_holds = live_are_live n c (subst (Memᴰ c) (sym e) (Memᴰ.head refl));
    is_first = λ d m. first d (subst (Memᴰ d) e m);
  }
    where
      first : (d : Cell) → Memᴰ d (c ∷ others) → T (not (cell_before d c))
      first d (Memᴰ.head q) = subst (λ (d : Cell). T (not (cell_before d c))) (sym q) (irrefl cell_before_strict c)
      first d (Memᴰ.tail m) = rel_of_Pairwise-cons (subst CellsInOrder e (run_in_order n)) ∣ m ∣₁
