-- A start and a round as the code makes them are those of the definitions.
use mathlib.Core.Path.{◌≡◌, refl, sym, ap, subst, ◌∙◌}
use mathlib.Core.List.Memᴰ
use mathlib.Core.List.{List, [], ◌∷◌, map, Memᴰ}
use Prim.Native.Nat.{suc, ◌+◌, ◌-◌, ◌≤◌}
use native.Mathlib.Numerals.{add-one}
use native.Mathlib.Omega.{arith}
use lib.Dec.{T}
use Rattle.numbers.specs.Lists.{keep}
use Rattle.query.specs.Place.{Rect}
use Rattle.query.specs.Grid.{Grid}
use Rattle.query.specs.Problem.{Rules, Problem}
use Rattle.query.specs.Cut.{can_cut, Line, cut_line, cut_before, cut_after, low_corner, high_corner, new_corners}
use Rattle.query.specs.Order as Query
use Rattle.query.specs.Order.{Priced, precedes, priced_key, cell_key}
use Rattle.query.specs.Range.{RectInRange, cost_limit, rounds_limit}
use Rattle.query.specs.Search.{Search, is_live, cell_of, best_of, start_best, start, cells_after, best_after, round_on, round}
use Rattle.query.proofs.CellsAfter.{after_is}
use Rattle.columns.specs.Objects.{Pricing}
use Rattle.deck.specs.Values.{rect_of}
use Rattle.reach.specs.Held.{pricing_of_objects}
use Rattle.reach.specs.declared.objects.Objects.{Objects}
use Rattle.cells.specs.declared.Cell.{Cell}
use Rattle.cells.specs.Held.{query_cell}
use Rattle.cells.specs.Live.{Live, none_live, comes_before, leading}
use Rattle.cells.proofs.HeldLaws.{cells_keep, cells_in_order}
use Rattle.priced_place.specs.declared.PricedPlace.{PricedPlace}
use Rattle.priced_place.specs.ObjectProblem.{object_rules, object_problem, priced_of}
use Rattle.search.specs.declared.halves.Halves.{Halves}
use Rattle.search.specs.declared.run.Running.{Running}
use Rattle.search.specs.BestPlace.{improved}
use Rattle.search.specs.CutCell.{cell_for, halves_of, Cutting}
use Rattle.search.specs.LiveCells.{with_live}
use Rattle.search.specs.Running.{Takeable, search_of, Holds}
use Rattle.search.proofs.BestLaws.{best_two, priced_limit}
use Rattle.search.proofs.CutParts.{parts_ranged}
use Rattle.search.proofs.LiveLaws.{one_more, keep_two, added_free, added_cells, keep_live, single}

-- ---- a start
pub search_is : (cs : List Cell) (st : Running) → search_of cs st ≡ record { best = priced_of st.best; live = map query_cell cs; cuts = st.cuts }
unfolding search_of
search_is cs st = refl

start_is : (Q : Problem)
    → start Q ≡ record { best = start_best Q; live = keep (is_live Q.rules.grid (start_best Q)) (cell_of Q.rules Q.area ∷ []); cuts = 0 }
unfolding start
start_is Q = refl

pub started : (P : Pricing) (G : Grid) (area : Rect) (best : PricedPlace) → priced_of best ≡ start_best (object_problem P G area)
    → (c : Cell) → c ≡ cell_for P area → (l : Live) → l ≡ with_live G (priced_of best) c none_live
    → Holds (start (object_problem P G area)) rounds_limit l (record { best = best; cuts = 0 })
started P G area best bests c cell l added = record {
  is =
      search_is l.cells (record { best = best; cuts = 0 })
      ∙ (λ i. record { best = bests i; live = cells i; cuts = 0 })
      ∙ sym (start_is Q);
  low_free = omega (arith, added_free G (priced_of best) c none_live l added);
}
  where
    Q : Problem
    Q = object_problem P G area

    cells : map query_cell l.cells ≡ keep (is_live G (start_best Q)) (cell_of Q.rules area ∷ [])
    cells =
        added_cells G (priced_of best) c none_live l added
        ∙ (λ i. one_more G (bests i) (query_cell (cell i)) [])
        ∙ single G (start_best Q) (cell_of Q.rules area)

-- ---- a round
-- the best place after a cut
abbrev best_with : PricedPlace → Halves → PricedPlace
best_with best hv = improved (improved best hv.low) hv.high

round_on_lem : (R : Rules) (s : Search) (c : Query.Cell) (cs : List Query.Cell) → s.live ≡ c ∷ cs
    → round R s ≡ record { best = best_after R s.best c; live = keep (is_live R.grid (best_after R s.best c)) (cells_after R c cs); cuts = suc s.cuts }
unfolding round round_on
round_on_lem R s c cs e = ap (round_on R s) e

best_after_is : (R : Rules) (best : Priced) (c : Query.Cell)
    → best_after R best c ≡ best_of R best (new_corners (cut_line R.grid c.rect).axis (cut_line R.grid c.rect).at c.rect)
unfolding best_after
best_after_is R best c = refl

pub leading_free : (best : Query.Key) (l l' : Live) → l' ≡ leading best l → l'.free ≡ l.free
unfolding leading
leading_free best l l' e = ap (λ (x : Live). x.free) e

leading_cells : (best : Query.Key) (l l' : Live) → l' ≡ leading best l → l'.cells ≡ keep (comes_before best) l.cells
unfolding leading
leading_cells best l l' e = ap (λ (x : Live). x.cells) e

module _ (P : Pricing) (G : Grid) (c : Cell) (l : Live) (st : Running) (h : Takeable G c l st) where
  abbrev R : Rules
  R = object_rules P G

  abbrev line : Line
  line = cut_line G (rect_of c.rect)

  abbrev halves : Halves
  halves = halves_of P line (rect_of c.rect)

  abbrev first : Query.Cell
  first = cell_of R (cut_before line.axis line.at (rect_of c.rect))

  abbrev second : Query.Cell
  second = cell_of R (cut_after line.axis line.at (rect_of c.rect))

  first_cell : query_cell halves.first ≡ first
  unfolding halves_of
  first_cell = refl

  second_cell : query_cell halves.second ≡ second
  unfolding halves_of
  second_cell = refl

  abbrev best : PricedPlace
  best = best_with st.best halves

  bests : priced_of best ≡ best_after R (priced_of st.best) (query_cell c)
  unfolding halves_of
  bests =
      best_two P G st.best (low_corner line.axis line.at (rect_of c.rect)) (high_corner line.axis line.at (rect_of c.rect))
      ∙ sym (best_after_is R (priced_of st.best) (query_cell c))

  kept : map query_cell (keep (comes_before (priced_key (priced_of best))) l.cells) ≡ keep (is_live G (priced_of best)) (map query_cell l.cells)
  kept = cells_keep (λ x. precedes (cell_key x) (priced_key (priced_of best))) l.cells ∙ keep_live G (priced_of best) (map query_cell l.cells) each
    where
      each : (x : Query.Cell) → Memᴰ x (map query_cell l.cells) → T (can_cut G x.rect)
      each x m =
          let w = Memᴰ.of_map query_cell l.cells m in
          subst (λ (y : Query.Cell). T (can_cut G y.rect)) w.2 (h.can_cut_lem w.0 (Memᴰ.tail w.1))

  -- the live cells once dead ones are dropped and both parts are added
  module _ (l₁ l₂ l₃ : Live) (trimmed : l₁ ≡ leading (priced_key (priced_of best)) l) (behind : l₂ ≡ with_live G (priced_of best) halves.second l₁)
      (front : l₃ ≡ with_live G (priced_of best) halves.first l₂) where
    cells : map query_cell l₃.cells ≡ keep (is_live G (priced_of best)) (cells_after R (query_cell c) (map query_cell l.cells))
    cells =
        added_cells G (priced_of best) halves.first l₂ l₃ front
        ∙ ap (one_more G (priced_of best) (query_cell halves.first))
        (added_cells G (priced_of best) halves.second l₁ l₂ behind
        ∙ ap (one_more G (priced_of best) (query_cell halves.second))
        (ap (map query_cell) (leading_cells (priced_key (priced_of best)) l l₁ trimmed) ∙ kept))
        ∙ sym after
      where
        after : keep (is_live G (priced_of best)) (cells_after R (query_cell c) (map query_cell l.cells))
            ≡ one_more G (priced_of best) (query_cell halves.first) (one_more G (priced_of best) (query_cell halves.second)
            (keep (is_live G (priced_of best)) (map query_cell l.cells)))
        after =
            rw (after_is R (query_cell c) (map query_cell l.cells), first_cell, second_cell)
            (keep_two G (priced_of best) first second (map query_cell l.cells) ((cells_in_order l.cells).1 h.in_order))

    round_search : record { best = priced_of best; live = map query_cell l₃.cells; cuts = st.cuts + 1 } ≡ round R (search_of (c ∷ l.cells) st)
    round_search =
        let was = search_is (c ∷ l.cells) st in
        (λ i. record {
          best = bests i;
          live = (cells ∙ ap (λ (x : Priced). keep (is_live G x) (cells_after R (query_cell c) (map query_cell l.cells))) bests) i;
          cuts = add-one st.cuts i;
        })
        ∙ sym (ap (round R) was ∙ round_on_lem R (record { best = priced_of st.best; live = map query_cell (c ∷ l.cells); cuts = st.cuts })
        (query_cell c) (map query_cell l.cells) refl)

    after_round : Holds (round R (search_of (c ∷ l.cells) st)) (l.free - 2) l₃ (record { best = best; cuts = st.cuts + 1 })
    after_round = record {
      is = search_is l₃.cells (record { best = best; cuts = st.cuts + 1 }) ∙ round_search;
      low_free =
          omega (
            arith,
            leading_free (priced_key (priced_of best)) l l₁ trimmed,
            added_free G (priced_of best) halves.second l₁ l₂ behind,
            added_free G (priced_of best) halves.first l₂ l₃ front,
          );
    }

  pub rounded : (hv : Halves) → hv ≡ halves → (b new : PricedPlace) → b ≡ improved st.best hv.low → new ≡ improved b hv.high
      → (l₁ : Live) → l₁ ≡ leading (priced_key (priced_of new)) l → (l₂ : Live) → l₂ ≡ with_live G (priced_of new) hv.second l₁
      → (l₃ : Live) → l₃ ≡ with_live G (priced_of new) hv.first l₂
      → Holds (round R (search_of (c ∷ l.cells) st)) (l.free - 2) l₃ (record { best = new; cuts = st.cuts + 1 })
  rounded hv hve b new be news l₁ trimmed l₂ one l₃ two =
      let all : new ≡ best = news ∙ (λ i. improved ((be ∙ ap (λ (x : Halves). improved st.best x.low) hve) i) (hve i).high) in
      rw all (after_round l₁ l₂ l₃ (rw all at trimmed) (rw (all, hve) at one) (rw (all, hve) at two))

-- ---- what the steps of a round ask of its cut
module _ (o : Objects) (G : Grid) (r : Rect) (h : Cutting G r) (hv : Halves) (e : hv ≡ halves_of (pricing_of_objects o) (cut_line G r) r) where
  pub halves_limit : (hv.low.cost ≤ cost_limit) × (hv.high.cost ≤ cost_limit)
  unfolding halves_of
  halves_limit =
      let P = pricing_of_objects o in
      (priced_limit o _ hv.low (ap (λ (x : Halves). x.low) e), priced_limit o _ hv.high (ap (λ (x : Halves). x.high) e))

  pub halves_ranged : RectInRange (rect_of hv.first.rect) × RectInRange (rect_of hv.second.rect)
  unfolding halves_of
  halves_ranged = let parts = parts_ranged G r h in rw e (parts.0.range, parts.1.range)

pub cutting : {G : Grid} {c : Cell} {l : Live} {st : Running} → Takeable G c l st → Cutting G (rect_of c.rect)
cutting h = record { ranged = h.ranged; can_cut_lem = h.can_cut_lem _ (Memᴰ.head refl) }
