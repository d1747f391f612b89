-- A run as the code makes it: what a round may ask of the search so far, where the rounds end, and what the answer is.
use mathlib.Core.Path.{◌≡◌, refl, sym, ap, subst, ◌∙◌}
use mathlib.Core.Bool.{Bool, cond, not}
use mathlib.Core.Logic.{⊎_elim}
use mathlib.Core.List.Memᴰ
use mathlib.Core.List.Pairwise
use mathlib.Core.List.{List, [], ◌∷◌, map, Memᴰ, rel_of_Pairwise-cons}
use Prim.Native.Nat.{ℕ, zero, suc, ◌+◌, ◌-◌, ◌*◌, ◌^◌, ◌≤◌, ◌<◌}
use native.Mathlib.Nat.{eq-or-lt_of_le}
use native.Mathlib.Numerals.{add-one}
use native.Mathlib.Omega.{arith}
use lib.Dec.{T}
use lib.IntN.{ℤ, pos}
use lib.ListN.{length, length-map}
use lib.Signed.{mag, lt_z, ◌≤ℤ◌}
use Rattle.std.specs.Prelude.{None, Some}
use Rattle.std.specs.Int.{int_min}
use Rattle.numbers.specs.Lists.{least_by, non_empty}
use Rattle.numbers.specs.Padded.{padded}
use Rattle.numbers.proofs.Truth.{and_left, nor_left, fails, cond_ind}
use Rattle.numbers.proofs.Integer.{order}
use Rattle.query.specs.Problem.{Rules, Problem}
use Rattle.query.specs.Cut.{can_cut}
use Rattle.query.specs.Order as Query
use Rattle.query.specs.Order.{precedes, priced_key, cell_key, cell_before, CellsInOrder}
use Rattle.query.specs.Search.{Search, is_live, start, round_on, round, run}
use Rattle.query.specs.Figures as Figures
use Rattle.query.specs.Space.{all_numbers}
use Rattle.query.specs.Range.{cost_limit, rounds_limit}
use Rattle.query.proofs.SearchLaws.{run_in_order, partition_law}
use Rattle.query.proofs.Counts.{cuts_most}
use Rattle.deck.specs.Values.{rect_of}
use Rattle.reach.specs.Columns.{Ranged}
use Rattle.cells.specs.declared.Cell.{Cell}
use Rattle.search.specs.declared.run.Running.{Running}
use Rattle.search.specs.declared.run.Found.{Found}
use Rattle.cells.specs.Held.{query_cell, HeldInOrder}
use Rattle.cells.specs.Live.{Live, first_of, rest_of, without_first}
use Rattle.search.specs.Running.{search_of, Takeable, Holds}
use Rattle.search.specs.Answer.{Answerable, is_done, found_of, Searched}
use Rattle.priced_place.specs.ObjectProblem.{priced_of}
use Rattle.numbers.proofs.WordTests.{back, fitting}
use Rattle.cells.proofs.HeldLaws.{cells_in_order}
use Rattle.search.proofs.RoundLaws.{search_is}

-- ---- rounds from a search on
unfoldable pub rounds_from : Rules → ℕ → Search → Search
unfolding round
rounds_from R zero s = s
rounds_from R (suc n) s = round R (rounds_from R n s)

rounds_none : (R : Rules) (s : Search) → rounds_from R 0 s ≡ s
unfolding rounds_from
rounds_none R s = refl

rounds_more : (R : Rules) (n : ℕ) (s : Search) → rounds_from R (n + 1) s ≡ round R (rounds_from R n s)
unfolding rounds_from
rounds_more R n s = ap (λ (m : ℕ). rounds_from R m s) (add-one n)

rounds_run : (Q : Problem) (n : ℕ) → rounds_from Q.rules n (start Q) ≡ run Q n
unfolding rounds_from run
rounds_run Q zero = refl
rounds_run Q (suc n) = ap (round Q.rules) (rounds_run Q n)

-- ---- the loop
-- live cells and a state hold a search that is equal, and a lower number of slots is free
holds_as : {x y : Search} {low lowest : ℕ} {l : Live} {st : Running} → Holds x low l st → x ≡ y → lowest ≤ low → Holds y lowest l st
holds_as h e k = record { is = h.is ∙ e; low_free = omega (arith, h.low_free) }

-- what the live cells were before the first was taken
popped_rest : (free : ℕ) (cs : List Cell) (c : Cell) (l : Live) → Some c ≡ first_of cs → l ≡ rest_of free cs
    → (cs ≡ c ∷ l.cells) × (l.free ≡ free + 1)
popped_rest free [] c l p q = absurd (cc)
popped_rest free (x ∷ xs) c l p q =
    let same : x ≡ c = cc in
    let rest : xs ≡ l.cells = sym (ap (λ (k : Live). k.cells) q) in
    ((λ i. same i ∷ rest i), ap (λ (k : Live). k.free) q)

none_rest : (free : ℕ) (cs : List Cell) (l : Live) → None ≡ first_of cs → l ≡ rest_of free cs → (cs ≡ []) × (l.cells ≡ [])
none_rest free [] l p q = (refl, ap (λ (k : Live). k.cells) q)
none_rest free (x ∷ xs) l p q = absurd (cc)

popped : (l l' : Live) (c : Cell) → Some c ≡ first_of l.cells → l' ≡ without_first l → (l.cells ≡ c ∷ l'.cells) × (l'.free ≡ l.free + 1)
popped l l' c p q = popped_rest l.free l.cells c l' p q

module _ (R : Rules) where
  pub holds_first : (x : Search) (l : Live) (st : Running) → Holds x rounds_limit l st
      → Holds (rounds_from R 0 (search_of l.cells st)) (rounds_limit - 0) l st
  holds_first x l st h = holds_as h (sym h.is ∙ sym (rounds_none R (search_of l.cells st))) (omega arith)

  pub holds_more : (k : ℕ) (x : Search) (l l₁ l' : Live) (c : Cell) (st st' : Running) → Holds (rounds_from R k x) (rounds_limit - k) l st
      → Some c ≡ first_of l.cells → l₁ ≡ without_first l → Holds (round R (search_of (c ∷ l₁.cells) st)) (l₁.free - 2) l' st'
      → Holds (rounds_from R (k + 1) x) (rounds_limit - (k + 1)) l' st'
  holds_more k x l l₁ l' c st st' h p q g =
      let taken = popped l l₁ c p q in
      holds_as g (ap (λ (cs : List Cell). round R (search_of cs st)) (sym taken.0) ∙ ap (round R) h.is ∙ sym (rounds_more R k x))
      (omega (arith, h.low_free, taken.1))

pub holds_run : (Q : Problem) (k lowest : ℕ) (x : Search) (l : Live) (st : Running) → x ≡ start Q
    → Holds (rounds_from Q.rules k x) lowest l st → Holds (run Q k) lowest l st
holds_run Q k lowest x l st e h = holds_as h (ap (rounds_from Q.rules k) e ∙ rounds_run Q k) (omega arith)

-- ---- once no cell is live, rounds change nothing
stays : (Q : Problem) (k m : ℕ) → k ≤ m → (run Q k).live ≡ [] → run Q m ≡ run Q k
unfolding run round round_on
stays Q k zero h e = ap (run Q) (let z : zero ≡ k = omega arith in z)
stays Q k (suc m) h e =
    ⊎_elim (λ (q : k ≡ suc m). ap (run Q) (sym q))
    (λ (l : k < suc m). ap (round Q.rules) (stays Q k m (omega arith) e) ∙ ap (round_on Q.rules (run Q k)) e) (eq-or-lt_of_le h)

-- ---- live cells and a state that hold a run
-- what is known of the cells and the best place of every run
pub record Steady (Q : Problem) : Type 0 where
  pub ranged : (n : ℕ) (c : Query.Cell) → Memᴰ c (run Q n).live → Ranged c.rect
  pub cost_limit_lem : (n : ℕ) → (run Q n).best.cost ≤ cost_limit

module _ (Q : Problem) (n lowest : ℕ) (l : Live) (st : Running) (h : Holds (run Q n) lowest l st) where
  pub cells_are : map query_cell l.cells ≡ (run Q n).live
  cells_are = ap (λ (x : Search). x.live) (sym (search_is l.cells st) ∙ h.is)

  cuts_are : st.cuts ≡ (run Q n).cuts
  cuts_are = ap (λ (x : Search). x.cuts) (sym (search_is l.cells st) ∙ h.is)

  best_cost : st.best.cost ≡ (run Q n).best.cost
  best_cost = ap (λ (x : Search). x.best.cost) (sym (search_is l.cells st) ∙ h.is)

  member : (c : Cell) → Memᴰ c l.cells → Memᴰ (query_cell c) (run Q n).live
  member c m = subst (Memᴰ (query_cell c)) cells_are (Memᴰ.map query_cell m)

  -- no cell is live: what is left of the live cells holds every later run
  pub ended : (m : ℕ) → n ≤ m → (l' : Live) → None ≡ first_of l.cells → l' ≡ without_first l → Holds (run Q m) 0 l' st
  ended m k l' p q =
      let none = none_rest l.free l.cells l' p q in
      let same : l'.cells ≡ l.cells = none.1 ∙ sym none.0 in
      record {
        is = ap (λ (cs : List Cell). search_of cs st) same ∙ h.is ∙ sym (stays Q n m k (sym cells_are ∙ ap (map query_cell) none.0));
        low_free = omega arith;
      }

  pub finished : (m : ℕ) → n ≡ m → Holds (run Q m) 0 l st
  finished m e = holds_as h (ap (run Q) e) (omega arith)

  ordered : HeldInOrder l.cells
  ordered = (cells_in_order l.cells).0 (subst CellsInOrder (sym cells_are) (run_in_order Q n))

  pub answerable : Steady Q → Answerable l st
  answerable steady = record { cost_limit_lem = omega (arith, best_cost, steady.cost_limit_lem n); in_order = ordered }

  -- what a round asks
  pub takeable : Steady Q → n < rounds_limit → 1 ≤ lowest → (c : Cell) (l' : Live) → Some c ≡ first_of l.cells → l' ≡ without_first l
      → Takeable Q.rules.grid c l' st
  unfolding is_live
  takeable steady few low c l' p q =
      let taken = popped l l' c p q in
      record {
        room = omega (arith, h.low_free, taken.1);
        few = omega (arith, cuts_are, cuts_most Q n);
        cost_limit_lem = omega (arith, best_cost, steady.cost_limit_lem n);
        ranged = steady.ranged n (query_cell c) (member c (subst (Memᴰ c) (sym taken.0) (Memᴰ.head refl)));
        can_cut_lem = λ d m.
            let live = (partition_law Q n).live_are_live (query_cell d) (member d (subst (Memᴰ d) (sym taken.0) m)) in
            and_left (can_cut Q.rules.grid (rect_of d.rect)) (precedes (cell_key (query_cell d)) (priced_key (run Q n).best)) live;
        in_order = Pairwise.of_cons (subst HeldInOrder taken.0 ordered);
      }

  -- the answer, and a cell space that has room for the live cells and then holds them
  pub found_is : (r : Found) → r ≡ found_of (search_of l.cells st) → r ≡ found_of (run Q n)
  found_is r e = e ∙ ap found_of h.is

  pub room : (lent : ℕ) → 5 * length (run Q n).live ≤ lent → 5 * length l.cells ≤ lent
  room lent k = rw (sym cells_are, length-map l.cells query_cell) at k

  pub searched : (lent : ℕ) (numbers : List ℤ) → numbers ≡ padded lent (pos 0) (all_numbers (map query_cell l.cells)) → (r : Found)
      → r ≡ found_of (search_of l.cells st) → Searched Q n lent numbers r
  searched lent numbers written r e = record {
    found = found_is r e;
    cells = written ∙ ap (λ (cs : List Query.Cell). padded lent (pos 0) (all_numbers cs)) cells_are;
  }

-- ---- the low figure
low_is : (s : Search) → Figures.low s ≡ least_by lt_z (pos s.best.cost) (map (λ c. c.bound) s.live)
unfolding Figures.low
low_is s = refl

least_nil : (m : ℤ) → least_by lt_z m [] ≡ m
unfolding least_by
least_nil m = refl

least_cons : (m b : ℤ) (bs : List ℤ) → least_by lt_z m (b ∷ bs) ≡ least_by lt_z (cond (lt_z b m) b m) bs
unfolding least_by
least_cons m b bs = refl

least_stays : (m : ℤ) (bs : List ℤ) → ((b : ℤ) → Memᴰ b bs → m ≤ℤ b) → least_by lt_z m bs ≡ m
least_stays m [] h = least_nil m
least_stays m (b ∷ bs) h =
    let k : m ≤ℤ b = h b (Memᴰ.head refl) in
    let f : T (not (lt_z b m)) = omega (arith, order) in
    rw (least_cons m b bs, fails (lt_z b m) f) (least_stays m bs (λ z m. h z (Memᴰ.tail m)))

bounds_le : (c : Query.Cell) (cs : List Query.Cell) → CellsInOrder (c ∷ cs) → (d : Query.Cell) → Memᴰ d cs
    → c.bound ≤ℤ d.bound
unfolding cell_before precedes
bounds_le c cs p d m =
    let q : T (not (cell_before d c)) = rel_of_Pairwise-cons p ∣ m ∣₁ in
    let n : T (not (lt_z d.bound c.bound)) = nor_left (lt_z d.bound c.bound) _ q in
    omega (arith, order)

module _ (c : Query.Cell) (cs : List Query.Cell) (p : CellsInOrder (c ∷ cs)) (h : ℤ) where
  smallest : ℤ
  smallest = cond (lt_z c.bound h) c.bound h

  smallest_le : smallest ≤ℤ c.bound
  unfolding smallest
  smallest_le = cond_ind (λ (z : ℤ). z ≤ℤ c.bound) (lt_z c.bound h) (λ t. omega (arith, order)) (λ t. omega (arith, order))

  bound_of : (b : ℤ) → Memᴰ b (map (λ d. d.bound) cs) → c.bound ≤ℤ b
  bound_of b m = let w = Memᴰ.of_map (λ (d : Query.Cell). d.bound) cs m in subst (λ (z : ℤ). c.bound ≤ℤ z) w.2 (bounds_le c cs p w.0 w.1)

  least_first : least_by lt_z h (map (λ d. d.bound) (c ∷ cs)) ≡ cond (lt_z c.bound h) c.bound h
  unfolding smallest
  least_first =
      least_cons h c.bound (map (λ d. d.bound) cs)
      ∙ least_stays smallest (map (λ d. d.bound) cs) (λ b m. let k = bound_of b m in let l = smallest_le in omega (arith, order))

module _ (l : Live) (st : Running) (h : Answerable l st) where
  -- the best cost, the least of it and the bounds of cells, and the low figure
  abbrev high : ℤ
  high = pos st.best.cost

  abbrev least_of : List Cell → ℤ
  least_of cs = least_by lt_z high (map (λ c. c.bound) (map query_cell cs))

  abbrev low : ℤ
  low = Figures.low (search_of l.cells st)

  high_back : back high ≡ high
  high_back = fitting high (omega (arith, h.cost_limit_lem))

  low_of_search : low ≡ least_of l.cells
  low_of_search = ap Figures.low (search_is l.cells st) ∙ low_is (record { best = priced_of st.best; live = map query_cell l.cells; cuts = st.cuts })

  low_none_lem : (cs : List Cell) → None ≡ first_of cs → high ≡ least_of cs
  low_none_lem [] p = sym (least_nil high)
  low_none_lem (x ∷ xs) p = absurd (cc)

  low_some_lem : (cs : List Cell) (c : Cell) → Some c ≡ first_of cs → HeldInOrder cs → cond (lt_z c.bound high) c.bound high ≡ least_of cs
  low_some_lem [] c p o = absurd (cc)
  low_some_lem (x ∷ xs) c p o =
      let same : c ≡ x = cc in
      rw same (sym (least_first (query_cell x) (map query_cell xs) ((cells_in_order (x ∷ xs)).1 o) high))

  -- as the code has it, in words
  pub low_high : None ≡ first_of l.cells → back high ≡ low
  low_high p = high_back ∙ low_none_lem l.cells p ∙ sym low_of_search

  pub low_first : (c : Cell) → Some c ≡ first_of l.cells → mag c.bound < 2 ^ 63 → (m : ℤ) → mag m < 2 ^ 63
      → m ≡ int_min (back high) (back c.bound) → back m ≡ low
  low_first c p f m g q =
      fitting m g
      ∙ q
      ∙ (λ i. int_min (high_back i) (fitting c.bound f i))
      ∙ low_some_lem l.cells c p h.in_order
      ∙ sym low_of_search

  done_of : (cs : List Cell) → not (non_empty cs) ≡ is_done (map query_cell cs)
  done_of [] = refl
  done_of (x ∷ cs) = refl

  pub answer_is : (d : Bool) (low' : ℤ) → d ≡ not (non_empty l.cells) → mag low' < 2 ^ 63 → low' ≡ low
      → ◌≡◌ {A = Found} (record { done = d; best = st.best; low = back low'; cuts = st.cuts }) (found_of (search_of l.cells st))
  unfolding found_of search_of
  answer_is d low' t fl e = λ i. record { done = (t ∙ done_of l.cells) i; best = st.best; low = (fitting low' fl ∙ e) i; cuts = st.cuts }
