-- What `of_deck` makes of a sound record: the objects, and the lines by their flags, are the deck's.
use mathlib.Core.Path.{◌≡◌, refl, sym, ap, ◌∙◌}
use mathlib.Core.Bool.{Bool, false}
use mathlib.Core.List.{List, map}
use native.Mathlib.Omega.{arith}
use lib.IntN.{ℤ}
use lib.ListN.{length, take, length-map}
use lib.Seq.{length-take-le}
use Rattle.numbers.specs.Padded.{padded}
use Rattle.query.specs.Place.{Axis, x_axis, y_axis, coordinate, low_edge, high_edge}
use Rattle.query.specs.Lines.{lines}
use Rattle.query.specs.Reach.{reach}
use Rattle.query.specs.Range.{stops_limit}
use Rattle.deck.specs.declared.Deck.{Deck}
use Rattle.deck.specs.Values.{held_axis, rect_of, stop_of}
use Rattle.deck.specs.DeckOf.{deck_of}
use Rattle.deck.specs.Sound.{Sound}
use Rattle.deck.specs.Ranges.{CostsInRange, StopsInRange, NearsInRange}
use Rattle.deck.proofs.DeckLaws.{costs_range, stops_range, nears_front}
use Rattle.deck.proofs.SoundLaws.{sound_listed, sound_nears}
use Rattle.columns.specs.Objects.{pricing_of, stored_pricing}
use Rattle.columns.specs.ObjectColumns.{columns_of, pricing_in}
use Rattle.columns.proofs.StoredLaws.{sound_pricing}
use Rattle.reach.specs.ObjectReach.{flags_of}
use Rattle.reach.specs.Columns.{Ranged}
use Rattle.reach.specs.Held.{columns_of_objects, count_of_objects, pricing_of_objects}
use Rattle.reach.specs.declared.objects.Objects.{Objects}
use Rattle.reach.proofs.ReachLaws.{flags_law}
use Rattle.reach.proofs.RecordLaws.{made_pricing}
use Rattle.lines.specs.LineRecord.{flagged, lines_between}
use Rattle.lines.proofs.DeckLines.{lines_found}
use Rattle.prepare.specs.ProblemRecord.{Parts, problem_record}

module _ (deck : Deck) (sound : Sound deck) where
  pub area_ranged : Ranged (rect_of deck.area)
  unfolding deck_of
  area_ranged = record { range = sound.range.area; full = sound.full }

  -- what its objects are made of, in range
  near_count : length (take deck.stop_count deck.near) ≡ deck.stop_count
  near_count = length-take-le deck.stop_count deck.near (sound_nears sound).count

  pub objects_range : CostsInRange (held_axis deck.axis) × StopsInRange (take deck.stop_count deck.stops)
      × NearsInRange (take deck.stop_count deck.near) (length (take deck.stop_count deck.near))
      × (length (take deck.stop_count deck.near) ≡ length (take deck.stop_count deck.stops))
  objects_range = (
    costs_range deck sound.range,
    stops_range deck sound.range,
    rw near_count (nears_front (omega arith) (sound_nears sound)),
    near_count ∙ sym (length-take-le deck.stop_count deck.stops (omega (arith, (sound_listed sound).sized.stops, (sound_listed sound).stops))),
  )

  -- its objects, and which of them reach the area
  module _ (objects : Objects) (made : (columns_of_objects objects ≡ columns_of (stored_pricing (held_axis deck.axis)
      (map stop_of (take deck.stop_count deck.stops)) (take deck.stop_count deck.near)))
      × (count_of_objects objects ≡ length (take deck.stop_count deck.stops))) (flags : List Bool)
      (f : flags ≡ flags_of (pricing_of_objects objects) (rect_of deck.area)) where
    columns_are : columns_of_objects objects ≡ columns_of (pricing_of (deck_of deck))
    unfolding deck_of
    columns_are = made.0 ∙ ap columns_of (sound_pricing sound)

    count_is : count_of_objects objects ≡ length (deck_of deck).stops
    unfolding deck_of
    count_is = made.1 ∙ sym (length-map (take deck.stop_count deck.stops) stop_of)

    flags_are : flags ≡ padded stops_limit false (map (reach (deck_of deck) (deck_of deck).area) (deck_of deck).stops)
    unfolding deck_of
    flags_are = f ∙ (λ i. flags_of (pricing_in (columns_are i) (count_is i)) (rect_of deck.area))
        ∙ ap (λ P. flags_of P (rect_of deck.area)) (made_pricing (deck_of deck) sound.range) ∙ flags_law (deck_of deck) (deck_of deck).area

    -- the lines of all stops along an axis, by the flags
    abbrev found : Axis → List ℤ
    found axis = lines_between (low_edge axis (rect_of deck.area)) (high_edge axis (rect_of deck.area))
        (flagged (map (λ s. coordinate axis (stop_of s).at) (take deck.stop_count deck.stops)) flags)

    found_are : (axis : Axis) → found axis ≡ lines (deck_of deck) axis
    unfolding deck_of
    found_are axis = lines_found (deck_of deck) axis (take deck.stop_count deck.stops) refl flags_are

    -- the record
    pub made_problem : (v w : List ℤ) → v ≡ found x_axis → w ≡ found y_axis → ◌≡◌ {A = Parts} (record {
      area = deck.area;
      count = count_of_objects objects;
      columns = columns_of_objects objects;
      vertical = v;
      horizontal = w;
    }) (problem_record (deck_of deck))
    unfolding deck_of problem_record
    made_problem v w across deep = λ i. record {
      area = deck.area;
      count = count_is i;
      columns = columns_are i;
      vertical = (across ∙ found_are x_axis) i;
      horizontal = (deep ∙ found_are y_axis) i;
    }
