-- Lines are strictly increasing and stand at exactly the named coordinates; gaps are the lines strictly inside the area and one more.
use mathlib.Core.Path.{◌≡◌, refl, sym}
use mathlib.Core.Logic.{⊎_elim}
use mathlib.Core.List.Memᴰ
use mathlib.Core.List.{List, [], foldr, map, Memᴰ}
use Prim.Native.Nat.{◌+◌, ◌≤◌}
use native.Mathlib.Omega.{arith}
use lib.Dec.{T, not_T}
use lib.IntN.{ℤ}
use lib.ListN.{length}
use lib.Signed.{le_z, ◌≤ℤ◌, ◌<ℤ◌}
use Rattle.numbers.specs.Integer.{between, strictly_between}
use Rattle.numbers.specs.Lists.{keep, insert_once}
use Rattle.numbers.proofs.Truth.{test}
use Rattle.numbers.proofs.Integer.{order}
use Rattle.numbers.proofs.Ranges.{between_range, range_between, strictly_range}
use Rattle.numbers.proofs.Members.{keep_test, keep_from, keep_all, insert_once_cases, insert_once_new, insert_once_old, insert_once_increasing}
use Rattle.numbers.proofs.Increasing.{keep_none, inserted_increasing, inserted_from, inserted_all, inside_gaps}
use Rattle.query.specs.Place.{NonEmpty, Axis, x_axis, y_axis, coordinate, low_edge, high_edge}
use Rattle.query.specs.Deck.{Stop, Deck}
use Rattle.query.specs.Reach.{reach}
use Rattle.query.specs.Lines.{stop_coordinates, lines, gaps}
use Rattle.query.specs.Grid.{lines_along, grid}
use Rattle.query.specs.Cut.{inside}
use Rattle.query.specs.Laws.{Named, edge_low, edge_high, of_stop, LinesLaw, GapsLaw}
use Rattle.query.proofs.Axes.{edges_in}

pub lines_along_lem : (deck : Deck) (axis : Axis) → lines_along (grid deck) axis ≡ lines deck axis
unfolding grid
lines_along_lem deck x_axis = refl
lines_along_lem deck y_axis = refl

-- the members of stop_coordinates
module _ (deck : Deck) (axis : Axis) {v : ℤ} where
  stop_named : Memᴰ v (stop_coordinates deck axis) → Named deck axis v
  unfolding stop_coordinates
  stop_named m =
      let lo = low_edge axis deck.area in
      let hi = high_edge axis deck.area in
      let at : Stop → ℤ = λ stop. coordinate axis stop.at in
      let reached = keep (reach deck deck.area) deck.stops in
      let range = between_range lo hi v (keep_test (between lo hi) (map at reached) m) in
      let r = Memᴰ.of_map at reached (keep_from (between lo hi) (map at reached) m) in
      of_stop r.0 (keep_from (reach deck deck.area) deck.stops r.1) (keep_test (reach deck deck.area) deck.stops r.1) (sym r.2)
      range.0 range.1

  named_stop : (stop : Stop) → Memᴰ stop deck.stops → T (reach deck deck.area stop) → v ≡ coordinate axis stop.at →
      low_edge axis deck.area ≤ℤ v → v ≤ℤ high_edge axis deck.area → Memᴰ v (stop_coordinates deck axis)
  unfolding stop_coordinates
  named_stop stop m t e h k =
      let lo = low_edge axis deck.area in
      let hi = high_edge axis deck.area in
      let at : Stop → ℤ = λ stop. coordinate axis stop.at in
      let reached = keep (reach deck deck.area) deck.stops in
      keep_all (between lo hi) (map at reached) (Memᴰ.cast e (Memᴰ.map at (keep_all (reach deck deck.area) deck.stops m t))) (range_between lo hi v h k)

pub lines_law : (deck : Deck) (axis : Axis) → LinesLaw deck axis
unfolding lines
lines_law deck axis = record {
  increasing = insert_once_increasing lo (insert_once hi others)
      (insert_once_increasing hi others (inserted_increasing (stop_coordinates deck axis)));
  named = λ v. (from v, all v);
}
  where
    lo : ℤ
    lo = low_edge axis deck.area

    hi : ℤ
    hi = high_edge axis deck.area

    others : List ℤ
    others = foldr insert_once [] (stop_coordinates deck axis)

    from : (v : ℤ) → Memᴰ v (insert_once lo (insert_once hi others)) → Named deck axis v
    from v m = ⊎_elim edge_low (λ n. ⊎_elim edge_high (λ k. stop_named deck axis (inserted_from (stop_coordinates deck axis) k))
        (insert_once_cases hi others n))
        (insert_once_cases lo (insert_once hi others) m)

    all : (v : ℤ) → Named deck axis v → Memᴰ v (insert_once lo (insert_once hi others))
    all v (edge_low e) = Memᴰ.cast e (insert_once_new lo (insert_once hi others))
    all v (edge_high e) = insert_once_old lo (insert_once hi others) (Memᴰ.cast e (insert_once_new hi others))
    all v (of_stop stop m t e h k) = insert_once_old lo (insert_once hi others)
        (insert_once_old hi others (inserted_all (stop_coordinates deck axis) (named_stop deck axis stop m t e h k)))

-- where the edges of an axis are in order, every line lies between them
lines_between_lem : (deck : Deck) (axis : Axis) → low_edge axis deck.area ≤ℤ high_edge axis deck.area → (v : ℤ) → Memᴰ v (lines deck axis) →
    (low_edge axis deck.area ≤ℤ v) × (v ≤ℤ high_edge axis deck.area)
lines_between_lem deck axis h v m = go h (((lines_law deck axis).named v).0 m)
  where
    go : low_edge axis deck.area ≤ℤ high_edge axis deck.area → Named deck axis v → (low_edge axis deck.area ≤ℤ v) × (v ≤ℤ high_edge axis deck.area)
    go k (edge_low e) = omega (arith, order)
    go k (edge_high e) = omega (arith, order)
    go k (of_stop stop m t e a b) = (a, b)

pub lines_range : (deck : Deck) (axis : Axis) → NonEmpty deck.area → (v : ℤ) → Memᴰ v (lines deck axis) →
    (low_edge axis deck.area ≤ℤ v) × (v ≤ℤ high_edge axis deck.area)
lines_range deck axis h = lines_between_lem deck axis (edges_in h axis)

inside_and_one : (deck : Deck) (axis : Axis) → low_edge axis deck.area ≤ℤ high_edge axis deck.area →
    gaps deck axis ≡ length (inside (grid deck) axis deck.area) + 1
unfolding gaps inside
inside_and_one deck axis h =
    let law = lines_law deck axis in
    rw lines_along_lem (sym (inside_gaps (low_edge axis deck.area) (high_edge axis deck.area) (lines deck axis) law.increasing h
    ((law.named _).1 (edge_low refl)) ((law.named _).1 (edge_high refl)) (lines_between_lem deck axis h)))

pub gaps_law : (deck : Deck) (axis : Axis) → GapsLaw deck axis
unfolding gaps
gaps_law deck axis = record { at_least_one = omega arith; inside_and_one = λ h. inside_and_one deck axis (edges_in h axis) }

-- where they are not in order, no line is inside, so that there are enough gaps in every deck
pub inside_most : (deck : Deck) (axis : Axis) → length (inside (grid deck) axis deck.area) + 1 ≤ gaps deck axis
unfolding inside
inside_most deck axis = ⊎_elim (λ t. omega (arith, inside_and_one deck axis (omega (arith, order))))
    (λ t. omega (arith, (gaps_law deck axis).at_least_one, none (omega (arith, order)))) (test (le_z lo hi))
  where
    lo : ℤ
    lo = low_edge axis deck.area

    hi : ℤ
    hi = high_edge axis deck.area

    none : hi <ℤ lo → length (inside (grid deck) axis deck.area) ≡ 0
    none h = keep_none (strictly_between lo hi) (lines_along (grid deck) axis) (λ x i. not_T (strictly_between lo hi x)
        (λ t. omega (arith, order, strictly_range lo hi x t)))
