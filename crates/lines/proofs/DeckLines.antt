-- The lines that `find_lines` finds for a deck's stops are the deck's, and stand in order.
use mathlib.Core.Path.{◌≡◌, refl, sym, ap, ◌∙◌}
use mathlib.Core.Bool.{Bool, true, false, cond}
use mathlib.Core.List.{List, [], ◌∷◌, ◌++◌, map, map-map}
use Prim.Native.Nat.{◌+◌, ◌≤◌}
use native.Mathlib.Omega.{arith}
use lib.IntN.{ℤ}
use lib.ListN.{length, length-map}
use Rattle.numbers.specs.Lists.{keep}
use Rattle.numbers.specs.Padded.{padded}
use Rattle.numbers.proofs.Members.{keep_length}
use Rattle.query.specs.Place.{Axis, x_axis, y_axis, coordinate, low_edge, high_edge}
use Rattle.query.specs.Deck as Query
use Rattle.query.specs.Deck.{Deck}
use Rattle.query.specs.Reach.{reach}
use Rattle.query.specs.Lines.{stop_coordinates, lines}
use Rattle.query.specs.Range.{stops_limit}
use Rattle.query.proofs.LineLaws.{lines_law}
use Rattle.deck.specs.declared.Stop.{Stop}
use Rattle.deck.specs.Values.{stop_of}
use Rattle.lines.specs.LineRecord.{LinesInOrder, Lined, flagged, lines_between}
use Rattle.lines.proofs.LineRecordLaws.{lines_between_length}

-- the flagged ones of a list of which the test flags some, with more flags behind those of the list
flagged_map : {A : Type 0} (f : A → ℤ) (p : A → Bool) (spare : List Bool) (xs : List A) → flagged (map f xs) (map p xs ++ spare) ≡ map f (keep p xs)
unfolding flagged keep
flagged_map f p spare [] = refl
flagged_map {A} f p spare (x ∷ xs) = go (p x) (flagged_map f p spare xs)
  where
    go : (b : Bool) → flagged (map f xs) (map p xs ++ spare) ≡ map f (keep p xs) →
        cond b (f x ∷ flagged (map f xs) (map p xs ++ spare)) (flagged (map f xs) (map p xs ++ spare)) ≡ map f (cond b (x ∷ keep p xs) (keep p xs))
    go true e = ap (λ (l : List ℤ). f x ∷ l) e
    go false e = e

module _ (deck : Deck) (axis : Axis) where
  lines_is : lines deck axis ≡ lines_between (low_edge axis deck.area) (high_edge axis deck.area)
      (map (λ stop. coordinate axis stop.at) (keep (reach deck deck.area) deck.stops))
  unfolding lines_between lines stop_coordinates
  lines_is = refl

  -- found for the stops as the code holds them, by an array that has in front whether each is within reach of the area
  pub lines_found : (stops : List Stop) {flags : List Bool} → map stop_of stops ≡ deck.stops →
      flags ≡ padded stops_limit false (map (reach deck deck.area) deck.stops) → lines_between (low_edge axis deck.area) (high_edge axis deck.area)
      (flagged (map (λ s. coordinate axis (stop_of s).at) stops) flags) ≡ lines deck axis
  unfolding padded
  lines_found stops e f =
      let at : Query.Stop → ℤ = λ stop. coordinate axis stop.at in
      let same : map (λ s. at (stop_of s)) stops ≡ map at deck.stops = sym (map-map at stop_of stops) ∙ ap (map at) e in
      rw (same, f, flagged_map at (reach deck deck.area) _ deck.stops, lines_is)

  pub lines_few : length (lines deck axis) ≤ length deck.stops + 2
  lines_few =
      let stops = keep (reach deck deck.area) deck.stops in
      let at : Query.Stop → ℤ = λ stop. coordinate axis stop.at in
      rw lines_is (omega (
        arith,
        lines_between_length (low_edge axis deck.area) (high_edge axis deck.area) (map at stops),
        length-map stops at,
        keep_length (reach deck deck.area) deck.stops,
      ))

  pub lines_in_order : length deck.stops ≤ stops_limit → LinesInOrder (lines deck axis)
  lines_in_order h = record { few = omega (arith, lines_few); increasing = (lines_law deck axis).increasing }

-- those of both axes
pub deck_lined : (deck : Deck) → length deck.stops ≤ stops_limit → Lined (lines deck x_axis) (lines deck y_axis)
deck_lined deck h = record { across = lines_in_order deck x_axis h; deep = lines_in_order deck y_axis h }
