-- The exhaustive search of a problem as the code prepares it: its lines in range, and its crossings in turn.
use mathlib.Core.Path.{◌≡◌, sym, ap, subst, ◌∙◌}
use mathlib.Core.Bool.{not}
use mathlib.Core.List.Memᴰ
use mathlib.Core.List.{flat_map, Memᴰ}
use Prim.Native.Nat.{ℕ, ◌≤◌}
use native.Mathlib.Omega.{arith}
use lib.Dec.{T}
use lib.IntN.{ℤ, pos, nat_abs}
use lib.ListN.{get_or}
use lib.Signed.{◌≤ℤ◌}
use Rattle.numbers.proofs.Integer.{order, abs_range}
use Rattle.numbers.proofs.Members.{flat_map_from}
use Rattle.numbers.proofs.WordTests.{back}
use Rattle.query.specs.Place as Place
use Rattle.query.specs.Place.{Place, NonEmpty, Axis, x_axis, y_axis, low_edge, high_edge, corner, earlier}
use Rattle.query.specs.Deck as Query
use Rattle.query.specs.Lines.{lines}
use Rattle.query.specs.Exhaustive.{exhaustive}
use Rattle.query.specs.Range.{PlaceInRange, InRange, coordinate_limit}
use Rattle.query.proofs.KeyOrder.{not_earlier}
use Rattle.query.proofs.LineLaws.{lines_range}
use Rattle.deck.specs.Values.{rect_of}
use Rattle.columns.specs.Objects.{Pricing}
use Rattle.reach.specs.Held.{pricing_of_objects}
use Rattle.lines.specs.LineRecord.{grid_of}
use Rattle.lines.proofs.Indexed.{member_at}
use Rattle.lines.proofs.DeckLines.{lines_in_order}
use Rattle.prepare.specs.declared.Problem.{Problem}
use Rattle.priced_place.specs.declared.PricedPlace.{PricedPlace}
use Rattle.priced_place.specs.ObjectProblem.{priced_of, priced_place_of}
use Rattle.priced_place.specs.Prepared.{problem_of, Prepared}
use Rattle.priced_place.proofs.Coordinates.{near_places, priced_back}
use Rattle.priced_place.proofs.DeckProblem.{prepared_ranged}
use Rattle.exhaustive.specs.Ramps.{LinesInRange}
use Rattle.exhaustive.specs.Cheapest.{first_cheapest, along}
use Rattle.exhaustive.proofs.CrossingOrder.{InTurn, crossing_turn, cheapest_is}

-- ---- the lines of a deck in range
edges_abs : (lo v hi : ℤ) (k : ℕ) → nat_abs lo ≤ k → nat_abs hi ≤ k → lo ≤ℤ v → v ≤ℤ hi → nat_abs v ≤ k
edges_abs lo v hi k a b g h = (abs_range v k).1 (omega (arith, order, (abs_range lo k).0 a, (abs_range hi k).0 b))

module _ (deck : Query.Deck) (range : InRange deck) (full : NonEmpty deck.area) where
  edge_range : (axis : Axis) → (nat_abs (low_edge axis deck.area) ≤ coordinate_limit) × (nat_abs (high_edge axis deck.area) ≤ coordinate_limit)
  edge_range x_axis = (range.area.low_corner_law.x_range, range.area.high_corner_law.x_range)
  edge_range y_axis = (range.area.low_corner_law.y_range, range.area.high_corner_law.y_range)

  pub deck_lines : (axis : Axis) → LinesInRange (lines deck axis)
  deck_lines axis = record {
    in_order = lines_in_order deck axis range.most_stops;
    range = λ j h.
        let m = lines_range deck axis full (get_or (lines deck axis) j (pos 0)) (member_at (pos 0) (lines deck axis) j h) in
        edges_abs (low_edge axis deck.area) _ (high_edge axis deck.area) coordinate_limit (edge_range axis).0 (edge_range axis).1 m.0 m.1;
  }

  -- no crossing is earlier than the area's corner
  deck_corner : (q : Place) → Memᴰ q (flat_map (along (lines deck y_axis)) (lines deck x_axis)) → T (not (earlier q (corner deck.area)))
  deck_corner q m =
      let (v, on-v, n) = flat_map_from (along (lines deck y_axis)) (lines deck x_axis) m in
      let (h, on-h, e) = Memᴰ.of_map (λ (h : ℤ). record { x = v; y = h }) (lines deck y_axis) n in
      rw (← e) (not_earlier (record { x = v; y = h }) (corner deck.area) (lines_range deck x_axis full v on-v).0 (lines_range deck y_axis full h on-h).0)

-- ---- a prepared problem
module _ {p : Problem} (prepared : Prepared p) where
  abbrev P : Pricing
  P = pricing_of_objects p.objects

  abbrev deck : Query.Deck
  deck = prepared.deck

  pub vertical_lines : LinesInRange p.vertical
  vertical_lines = subst LinesInRange (sym prepared.vertical_are) (deck_lines deck prepared.range prepared.full x_axis)

  pub horizontal_lines : LinesInRange p.horizontal
  horizontal_lines = subst LinesInRange (sym prepared.horizontal_are) (deck_lines deck prepared.range prepared.full y_axis)

  -- its crossings, in turn and none earlier than the area's corner
  turn : InTurn (flat_map (along p.horizontal) p.vertical)
  turn = crossing_turn p.horizontal p.vertical horizontal_lines.in_order.increasing vertical_lines.in_order.increasing

  none_earlier : (q : Place) → Memᴰ q (flat_map (along p.horizontal) p.vertical) → T (not (earlier q (corner (rect_of p.area))))
  none_earlier q m =
      subst (λ (r : Place.Rect). T (not (earlier q (corner r)))) (sym prepared.area_is)
      (deck_corner deck prepared.range prepared.full q
      (subst (Memᴰ q) (λ i. flat_map (along (prepared.horizontal_are i)) (prepared.vertical_are i)) m))

  pub corner_near : PlaceInRange (record { x = back p.area.xlo; y = back p.area.ylo })
  corner_near = let low = (prepared_ranged prepared).range.low_corner_law in near_places p.area.xlo p.area.ylo low.x_range low.y_range

  pub answers : (first r : PricedPlace) → first ≡ priced_place_of P (record { x = back p.area.xlo; y = back p.area.ylo })
      → r ≡ first_cheapest P first (flat_map (along p.horizontal) p.vertical) → priced_of r ≡ exhaustive (problem_of p)
  answers first r e b =
      let low = (prepared_ranged prepared).range.low_corner_law in
      let corner_first : first ≡ priced_place_of P (corner (rect_of p.area)) = priced_back P p.area.xlo p.area.ylo first low.x_range low.y_range e in
      ap priced_of (b ∙ ap (λ (s : PricedPlace). first_cheapest P s (flat_map (along p.horizontal) p.vertical)) corner_first)
      ∙ cheapest_is P (grid_of p.vertical p.horizontal) (rect_of p.area) turn none_earlier
