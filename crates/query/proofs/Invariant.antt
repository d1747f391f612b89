-- The invariant of the run: every crossing of the area lies in a live cell, or the best place is as good.
use mathlib.Core.Path.{◌≡◌, refl, sym, subst}
use mathlib.Core.Bool.{not}
use mathlib.Core.Logic.{◌⊎◌, inl, inr, ⊎_elim}
use mathlib.Core.List.{List, [], ◌∷◌, Memᴰ}
use Prim.Native.Nat.{ℕ, zero, suc}
use native.Mathlib.Omega.{arith}
use lib.Dec.{T, T_not}
use lib.IntN.{ℤ}
use lib.Signed.{lt_z, ◌≤ℤ◌, ◌<ℤ◌}
use Rattle.numbers.specs.Lists.{keep}
use Rattle.numbers.proofs.Truth.{test, and_left, nand_right}
use Rattle.numbers.proofs.Integer.{order}
use Rattle.numbers.proofs.Members.{keep_test, keep_from, keep_all}
use Rattle.query.specs.Place.{Place, Rect, In, NonEmpty, Axis, x_axis, y_axis, coordinate, low_edge, high_edge, corner}
use Rattle.query.specs.Grid.{Grid, lines_along}
use Rattle.query.specs.Problem.{Rules, Problem}
use Rattle.query.specs.Cut.{can_cut, new_corners}
use Rattle.query.specs.Order.{Priced, Cell, precedes, priced_key, cell_key, better}
use Rattle.query.specs.Search.{Search, is_live, priced_at, cell_of, best_of, other_corners, start_best, start, cells_after, best_after, round_on, round, run}
use Rattle.query.specs.Laws.{Inside, CutLaw, CutLineLaw}
use Rattle.query.proofs.KeyOrder.{precedes_strict, better_strict, point_after_cell}
use Rattle.query.proofs.Axes.{for_both, Along, along, along_in, edges_in, place_eq, other, cut_or_other}
use Rattle.query.proofs.Split.{OnEdge, Corner, corner_in, parts, PartOf, first_part, second_part, part_non_empty, part_point, part_edges, OnCut}
use Rattle.query.proofs.Split.{new_corner_on, part_corner}
use Rattle.query.proofs.CellsAfter.{axis_of, line_of, first_of, second_of, Within, after_cases, after_within}
use Rattle.query.proofs.Best.{best_of_from, best_of_old, best_of_new}
use Rattle.query.proofs.Lawful.{Lawful, OnLines}

-- p is not better than q
abbrev pub NotBetter : Priced → Priced → Type 0
NotBetter p q = T (not (better p q))

-- what is known of a cell: its bound, its place in the area, that its edges are lines, and that its corners are priced
pub record CellOk (P : Problem) (best : Priced) (c : Cell) : Type 0 where
  pub bound_is : c.bound ≡ P.rules.bound c.rect
  pub full : NonEmpty c.rect
  pub within : (p : Place) → In c.rect p → In P.area p
  pub low_line : (axis : Axis) → Memᴰ (low_edge axis c.rect) (lines_along P.rules.grid axis)
  pub high_line : (axis : Axis) → Memᴰ (high_edge axis c.rect) (lines_along P.rules.grid axis)
  pub priced : (p : Place) → Corner c.rect p → NotBetter (priced_at P.rules p) best

-- what is known of the best place
pub record BestOk (P : Problem) (best : Priced) : Type 0 where
  pub is : best ≡ priced_at P.rules best.at
  pub inside : In P.area best.at
  pub on_lines : OnLines P.rules.grid best.at

-- what is known of a search
pub record Ok (P : Problem) (best : Priced) (live : List Cell) : Type 0 where
  pub best_ok : BestOk P best
  pub cells : (c : Cell) → Memᴰ c live → CellOk P best c
  pub live_ones : (c : Cell) → Memᴰ c live → T (is_live P.rules.grid best c)
  pub cover : (q : Place) → In P.area q → OnLines P.rules.grid q → NotBetter (priced_at P.rules q) best ⊎ Within q live

-- a place that was not better than the best is not better than a later best
not_better_trans : (p best best' : Priced) → NotBetter best best' → NotBetter p best → NotBetter p best'
not_better_trans p best best' h k = better_strict.chain best' best p h k

module _ (P : Problem) (lawful : Lawful P) (cut_law : (r : Rect) → CutLaw P.rules.grid r) where
  abbrev G : Grid
  G = P.rules.grid

  abbrev R : Rules
  R = P.rules

  -- a crossing in a cell that cannot be cut is one of its corners
  uncut_corner : (r : Rect) (q : Place) → T (not (can_cut G r)) → In r q → OnLines G q → Corner r q
  uncut_corner r q t h on axis = ⊎_elim (λ e. inl e) (λ above. ⊎_elim (λ e. inr e)
      (λ under. absurd (T_not (can_cut G r) t ((cut_law r).can_be_cut.1 (axis, coordinate axis q, record { line = on axis; above = above; below = under }))))
      (at_or_under (along h axis).1)) (at_or_above (along h axis).0)
    where
      at_or_above : low_edge axis r ≤ℤ coordinate axis q → (coordinate axis q ≡ low_edge axis r) ⊎ (low_edge axis r <ℤ coordinate axis q)
      at_or_above k = ⊎_elim (λ s. inr (omega (arith, order))) (λ s. inl (omega (arith, order))) (test (lt_z (low_edge axis r) (coordinate axis q)))

      at_or_under : coordinate axis q ≤ℤ high_edge axis r → (coordinate axis q ≡ high_edge axis r) ⊎ (coordinate axis q <ℤ high_edge axis r)
      at_or_under k = ⊎_elim (λ s. inr (omega (arith, order))) (λ s. inl (omega (arith, order))) (test (lt_z (coordinate axis q) (high_edge axis r)))

  -- a crossing in a cell that is not live is not better than the best
  settled : (best : Priced) (c : Cell) → CellOk P best c → T (not (is_live G best c)) → (q : Place) → In c.rect q → OnLines G q →
      NotBetter (priced_at R q) best
  unfolding is_live better
  settled best c ok t q h on = ⊎_elim pruned uncut (test (can_cut G c.rect))
    where
      pruned : T (can_cut G c.rect) → NotBetter (priced_at R q) best
      pruned can = precedes_strict.chain (priced_key best) (cell_key c) (priced_key (priced_at R q))
          (nand_right (can_cut G c.rect) (precedes (cell_key c) (priced_key best)) t can)
          (point_after_cell c (priced_at R q) h (rw ok.bound_is (lawful.below c.rect q h)))

      uncut : T (not (can_cut G c.rect)) → NotBetter (priced_at R q) best
      uncut cannot = ok.priced q (uncut_corner c.rect q cannot h on)

  -- where some cells and the best cover the crossings, so do those of the cells that are live
  refresh : (best : Priced) (cells : List Cell) → BestOk P best → ((c : Cell) → Memᴰ c cells → CellOk P best c)
      → ((q : Place) → In P.area q → OnLines G q → NotBetter (priced_at R q) best ⊎ Within q cells)
      → Ok P best (keep (is_live G best) cells)
  refresh best cells best_ok ok cover = record {
    best_ok = best_ok;
    cells = λ c m. ok c (keep_from (is_live G best) cells m);
    live_ones = λ c m. keep_test (is_live G best) cells m;
    cover = λ q h on. ⊎_elim inl (λ w. ⊎_elim (λ t. inr (w.0, keep_all (is_live G best) cells w.1 t, w.2))
        (λ t. inl (settled best w.0 (ok w.0 w.1) t q w.2 on)) (test (is_live G best w.0))) (cover q h on);
  }

  -- a later best keeps what was known of a cell
  later_cell : (best best' : Priced) → NotBetter best best' → (c : Cell) → CellOk P best c → CellOk P best' c
  later_cell best best' h c ok = record {
    bound_is = ok.bound_is;
    full = ok.full;
    within = ok.within;
    low_line = ok.low_line;
    high_line = ok.high_line;
    priced = λ p k. not_better_trans (priced_at R p) best best' h (ok.priced p k);
  }

  -- a priced place of the area on its lines can be the best
  place_ok : (p : Place) → In P.area p → OnLines G p → BestOk P (priced_at R p)
  place_ok p h on = record { is = refl; inside = h; on_lines = on }

  pub best_of_ok : (best : Priced) (places : List Place) → BestOk P best → ((p : Place) → Memᴰ p places → In P.area p × OnLines G p) →
      BestOk P (best_of R best places)
  best_of_ok best places ok all =
      ⊎_elim (λ e. subst (BestOk P) (sym e) ok) (λ w. subst (BestOk P) w.2 (place_ok w.0 (all w.0 w.1).0 (all w.0 w.1).1))
      (best_of_from R best places)

  corner_on_lines : (r : Rect) → ((axis : Axis) → Memᴰ (low_edge axis r) (lines_along G axis)) →
      ((axis : Axis) → Memᴰ (high_edge axis r) (lines_along G axis)) → (p : Place) → Corner r p → OnLines G p
  corner_on_lines r low high p c axis = ⊎_elim (λ e. subst (λ (z : ℤ). Memᴰ z (lines_along G axis)) (sym e) (low axis))
      (λ e. subst (λ (z : ℤ). Memᴰ z (lines_along G axis)) (sym e) (high axis)) (c axis)

  -- ---- the start
  -- the corners of the area are the places that the start prices
  corner_first : Corner P.area (corner P.area)
  corner_first = for_both (OnEdge P.area (corner P.area)) (inl refl) (inl refl)

  other_corner : (p : Place) → Memᴰ p (other_corners P.area) → Corner P.area p
  unfolding other_corners
  other_corner p (Memᴰ.head e) = subst (Corner P.area) (sym e)
      (for_both (OnEdge P.area (record { x = P.area.xlo; y = P.area.yhi })) (inl refl) (inr refl))
  other_corner p (Memᴰ.tail (Memᴰ.head e)) =
      subst (Corner P.area) (sym e) (for_both (OnEdge P.area (record { x = P.area.xhi; y = P.area.ylo })) (inr refl) (inl refl))
  other_corner p (Memᴰ.tail (Memᴰ.tail (Memᴰ.head e))) =
      subst (Corner P.area) (sym e) (for_both (OnEdge P.area (record { x = P.area.xhi; y = P.area.yhi })) (inr refl) (inr refl))
  other_corner p (Memᴰ.tail (Memᴰ.tail (Memᴰ.tail x12))) = elim x12 [ ]

  every_corner : (p : Place) → Corner P.area p → (p ≡ corner P.area) ⊎ Memᴰ p (other_corners P.area)
  unfolding other_corners
  every_corner p c = go (c x_axis) (c y_axis)
    where
      at : (u v : ℤ) → p.x ≡ u → p.y ≡ v → p ≡ record { x = u; y = v }
      at u v e f = place_eq p (record { x = u; y = v }) (for_both (λ axis. coordinate axis p ≡ coordinate axis (record { x = u; y = v })) e f)

      go : OnEdge P.area p x_axis → OnEdge P.area p y_axis → (p ≡ corner P.area) ⊎ Memᴰ p (other_corners P.area)
      go (inl e) (inl f) = inl (at P.area.xlo P.area.ylo e f)
      go (inl e) (inr f) = inr (Memᴰ.head (at P.area.xlo P.area.yhi e f))
      go (inr e) (inl f) = inr (Memᴰ.tail (Memᴰ.head (at P.area.xhi P.area.ylo e f)))
      go (inr e) (inr f) = inr (Memᴰ.tail (Memᴰ.tail (Memᴰ.head (at P.area.xhi P.area.yhi e f))))

  corner_ok : (p : Place) → Corner P.area p → In P.area p × OnLines G p
  corner_ok p c = (corner_in P.area p lawful.non_empty c, corner_on_lines P.area lawful.low_line lawful.high_line p c)

  -- the corner with which the searches start can be the best
  pub first_ok : BestOk P (priced_at R (corner P.area))
  first_ok = place_ok (corner P.area) (corner_ok (corner P.area) corner_first).0 (corner_ok (corner P.area) corner_first).1

  start_best_ok : BestOk P (start_best P)
  unfolding start_best
  start_best_ok = best_of_ok (priced_at R (corner P.area)) (other_corners P.area) first_ok (λ p m. corner_ok p (other_corner p m))

  start_priced : (p : Place) → Corner P.area p → NotBetter (priced_at R p) (start_best P)
  unfolding start_best
  start_priced p c = ⊎_elim (λ e. subst (λ (q : Place). NotBetter (priced_at R q) (start_best P)) (sym e)
      (best_of_old R (priced_at R (corner P.area)) (other_corners P.area))) (best_of_new R (priced_at R (corner P.area)) (other_corners P.area) p)
      (every_corner p c)

  area_cell_ok : CellOk P (start_best P) (cell_of R P.area)
  area_cell_ok = record {
    bound_is = refl;
    full = lawful.non_empty;
    within = λ p h. h;
    low_line = lawful.low_line;
    high_line = lawful.high_line;
    priced = start_priced;
  }

  pub start_ok : Ok P (start P).best (start P).live
  unfolding start
  start_ok = refresh (start_best P) (cell_of R P.area ∷ []) start_best_ok only (λ q h on. inr (cell_of R P.area, Memᴰ.head refl, h))
    where
      only : (c : Cell) → Memᴰ c (cell_of R P.area ∷ []) → CellOk P (start_best P) c
      only c (Memᴰ.head e) = subst (CellOk P (start_best P)) (sym e) area_cell_ok
      only c (Memᴰ.tail x4) = elim x4 [ ]

  -- ---- a round
  module _ (best : Priced) (c : Cell) (others : List Cell) (ok : Ok P best (c ∷ others)) where
    taken : CellOk P best c
    taken = ok.cells c (Memᴰ.head refl)

    pub taken_cut : CutLineLaw G c.rect
    unfolding is_live
    taken_cut = (cut_law c.rect).cut_line_holds (and_left (can_cut G c.rect) (precedes (cell_key c) (priced_key best)) (ok.live_ones c (Memᴰ.head refl)))

    cut : Inside G (axis_of G c) c.rect (line_of G c)
    cut = taken_cut.is_inside

    pub is_first_part : PartOf (axis_of G c) (line_of G c) c.rect (first_of G c)
    is_first_part = first_part (axis_of G c) (line_of G c) c.rect cut.above cut.below (first_of G c) (second_of G c)
        (parts (axis_of G c) (line_of G c) c.rect)

    pub is_second_part : PartOf (axis_of G c) (line_of G c) c.rect (second_of G c)
    is_second_part = second_part (axis_of G c) (line_of G c) c.rect cut.above cut.below (first_of G c) (second_of G c)
        (parts (axis_of G c) (line_of G c) c.rect)

    -- a new corner is a point of the cell, on lines
    new_corner_in : (p : Place) → Memᴰ p (new_corners (axis_of G c) (line_of G c) c.rect) → In c.rect p × OnLines G p
    new_corner_in p m = go (new_corner_on (axis_of G c) (line_of G c) c.rect p m)
      where
        on_lines : OnCut (axis_of G c) (line_of G c) c.rect p → OnLines G p
        on_lines on = cut_or_other (λ a. Memᴰ (coordinate a p) (lines_along G a)) (axis_of G c)
            (subst (λ (z : ℤ). Memᴰ z (lines_along G (axis_of G c))) (sym on.on_line) cut.line)
            (⊎_elim (λ e. subst (λ (z : ℤ). Memᴰ z (lines_along G (other (axis_of G c)))) (sym e) (taken.low_line (other (axis_of G c))))
            (λ e. subst (λ (z : ℤ). Memᴰ z (lines_along G (other (axis_of G c)))) (sym e) (taken.high_line (other (axis_of G c)))) on.on_edge)

        at_cut : coordinate (axis_of G c) p ≡ line_of G c → low_edge (axis_of G c) c.rect <ℤ line_of G c → line_of G c <ℤ high_edge (axis_of G c) c.rect →
            Along c.rect p (axis_of G c)
        at_cut e h k = (omega (arith, order), omega (arith, order))

        at_edge : OnEdge c.rect p (other (axis_of G c)) → low_edge (other (axis_of G c)) c.rect ≤ℤ high_edge (other (axis_of G c)) c.rect →
            Along c.rect p (other (axis_of G c))
        at_edge (inl e) h = (omega (arith, order), omega (arith, order))
        at_edge (inr e) h = (omega (arith, order), omega (arith, order))

        go : OnCut (axis_of G c) (line_of G c) c.rect p → In c.rect p × OnLines G p
        go on = (
          along_in c.rect p (cut_or_other (Along c.rect p) (axis_of G c) (at_cut on.on_line cut.above cut.below)
              (at_edge on.on_edge (edges_in taken.full (other (axis_of G c))))),
          on_lines on,
        )

    abbrev pub best' : Priced
    best' = best_after R best c

    pub best_kept : NotBetter best best'
    unfolding best_after
    best_kept = best_of_old R best (new_corners (axis_of G c) (line_of G c) c.rect)

    best_new : (p : Place) → Memᴰ p (new_corners (axis_of G c) (line_of G c) c.rect) → NotBetter (priced_at R p) best'
    unfolding best_after
    best_new = best_of_new R best (new_corners (axis_of G c) (line_of G c) c.rect)

    -- the best is the old one, or a new corner, which is a point of the taken cell
    pub best_from : (best' ≡ best) ⊎ ((p : Place) × In c.rect p × (priced_at R p ≡ best'))
    unfolding best_after
    best_from = ⊎_elim inl (λ w. inr (w.0, (new_corner_in w.0 w.1).0, w.2)) (best_of_from R best (new_corners (axis_of G c) (line_of G c) c.rect))

    best_ok' : BestOk P best'
    unfolding best_after
    best_ok' = best_of_ok best (new_corners (axis_of G c) (line_of G c) c.rect) ok.best_ok
        (λ p m. (taken.within p (new_corner_in p m).0, (new_corner_in p m).1))

    part_ok : (q : Rect) → PartOf (axis_of G c) (line_of G c) c.rect q → CellOk P best' (cell_of R q)
    part_ok q part = record {
      bound_is = refl;
      full = part_non_empty (axis_of G c) (line_of G c) c.rect cut.above cut.below q part taken.full;
      within = λ p h. taken.within p (part_point (axis_of G c) (line_of G c) c.rect cut.above cut.below q part taken.full p h);
      low_line = λ a. (on_lines a).0;
      high_line = λ a. (on_lines a).1;
      priced = λ p k. ⊎_elim (λ old. not_better_trans (priced_at R p) best best' best_kept (taken.priced p old)) (best_new p)
          (part_corner (axis_of G c) (line_of G c) c.rect q part p k);
    }
      where
        on_lines : (a : Axis) → Memᴰ (low_edge a q) (lines_along G a) × Memᴰ (high_edge a q) (lines_along G a)
        on_lines = part_edges (axis_of G c) (line_of G c) c.rect cut.above cut.below q part taken.full (λ a z. Memᴰ z (lines_along G a))
            taken.low_line taken.high_line cut.line

    after_ok : (d : Cell) → Memᴰ d (cells_after R c others) → CellOk P best' d
    after_ok d m = ⊎_elim (λ e. subst (CellOk P best') (sym e) (part_ok (first_of G c) is_first_part))
        (⊎_elim (λ e. subst (CellOk P best') (sym e) (part_ok (second_of G c) is_second_part))
        (λ n. later_cell best best' best_kept d (ok.cells d (Memᴰ.tail n)))) (after_cases R c others d m)

    after_cover : (q : Place) → In P.area q → OnLines G q → NotBetter (priced_at R q) best' ⊎ Within q (cells_after R c others)
    after_cover q h on = ⊎_elim (λ k. inl (not_better_trans (priced_at R q) best best' best_kept k)) (λ w. inr (after_within R c others q w)) (ok.cover q h on)

    pub after_round : Ok P best' (keep (is_live G best') (cells_after R c others))
    after_round = refresh best' (cells_after R c others) best_ok' after_ok after_cover

  pub round_ok : (s : Search) (live : List Cell) → s.live ≡ live → Ok P s.best live → Ok P (round_on R s live).best (round_on R s live).live
  unfolding round_on
  round_ok s [] e ok = subst (Ok P s.best) (sym e) ok
  round_ok s (c ∷ others) e ok = after_round s.best c others ok

  pub run_ok : (n : ℕ) → Ok P (run P n).best (run P n).live
  unfolding run round
  run_ok zero = start_ok
  run_ok (suc n) = round_ok (run P n) (run P n).live refl (run_ok n)
