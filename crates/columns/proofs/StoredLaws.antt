-- The objects of stops as a record holds them: their columns; and what pricing reads of a sound record is what the definitions say.
use mathlib.Core.Path.{◌≡◌, refl, ap, ◌∙◌}
use mathlib.Core.List.{List, [], ◌∷◌, ◌++◌, map, zip_with}
use Prim.Native.Nat.{ℕ}
use native.Mathlib.Omega.{arith}
use lib.IntN.{pos}
use lib.ListN.{length, take}
use Rattle.numbers.specs.Integer.{times}
use Rattle.numbers.specs.Padded.{padded}
use Rattle.query.specs.Deck.{AxisCosts, Stop}
use Rattle.query.specs.Travel.{near}
use Rattle.query.specs.Range.{stops_limit}
use Rattle.deck.specs.declared.Deck.{Deck}
use Rattle.deck.specs.DeckOf.{deck_of}
use Rattle.deck.specs.Sound.{Sound}
use Rattle.deck.specs.Values.{held_axis}
use Rattle.deck.proofs.DeckLaws.{front_map}
use Rattle.deck.proofs.SoundLaws.{sound_near, sound_stops}
use Rattle.columns.specs.Objects.{scaled_place, Object, objects_of, stored_objects, pricing_of, stored_pricing}
use Rattle.columns.specs.ObjectColumns.{column, object_columns}
use Rattle.columns.proofs.ClosestLaws.{zip_length}

abbrev pub object_of : AxisCosts → Stop → ℕ → Object
object_of axis stop near = record { at = scaled_place axis stop.at; visits = stop.visits; near = near }

-- a map that looks at the first, or the second, of two lists side by side
module _ {A B C D : Type 0} (f : A → B → C) (g : C → D) where
  zip_first : (h : A → D) → ((a : A) (b : B) → g (f a b) ≡ h a) → (xs : List A) (ys : List B) → length xs ≡ length ys →
      map g (zip_with f xs ys) ≡ map h xs
  unfolding zip_with
  zip_first h e [] ys same = refl
  zip_first h e (x ∷ xs) [] same = absurd (omega (arith, same))
  zip_first h e (x ∷ xs) (y ∷ ys) same = rw (e x y, zip_first h e xs ys (omega (arith, same)))

  zip_second : (h : B → D) → ((a : A) (b : B) → g (f a b) ≡ h b) → (xs : List A) (ys : List B) → length xs ≡ length ys →
      map g (zip_with f xs ys) ≡ map h ys
  unfolding zip_with
  zip_second h e [] [] same = refl
  zip_second h e [] (y ∷ ys) same = absurd (omega (arith, same))
  zip_second h e (x ∷ xs) [] same = absurd (omega (arith, same))
  zip_second h e (x ∷ xs) (y ∷ ys) same = rw (e x y, zip_second h e xs ys (omega (arith, same)))

module _ (axis : AxisCosts) (stops : List Stop) (nears : List ℕ) (same : length stops ≡ length nears) where
  pub stored_count : length (stored_objects axis stops nears) ≡ length stops
  unfolding stored_objects
  stored_count = omega (arith, zip_length (object_of axis) stops nears, same)

  pub stored_columns : object_columns (stored_objects axis stops nears) ≡
      padded stops_limit (pos 0) (map (λ (s : Stop). times axis.a s.at.x) stops) ++ padded stops_limit (pos 0) (map (λ (s : Stop). times axis.b s.at.y) stops)
      ++ padded stops_limit (pos 0) (map (λ (s : Stop). pos s.visits) stops) ++ padded stops_limit (pos 0) (map pos nears)
  unfolding object_columns column stored_objects
  stored_columns = rw (
    zip_first (object_of axis) (λ (s : Object). s.at.x) (λ (s : Stop). times axis.a s.at.x) (λ s m. refl) stops nears same,
    zip_first (object_of axis) (λ (s : Object). s.at.y) (λ (s : Stop). times axis.b s.at.y) (λ s m. refl) stops nears same,
    zip_first (object_of axis) (λ (s : Object). pos s.visits) (λ (s : Stop). pos s.visits) (λ s m. refl) stops nears same,
    zip_second (object_of axis) (λ (s : Object). pos s.near) pos (λ s m. refl) stops nears same,
  ) refl

-- ---- of a sound record
module _ {deck : Deck} (sound : Sound deck) where
  pub listed_near : take deck.stop_count deck.near ≡ map (near (deck_of deck)) (deck_of deck).stops
  listed_near = (λ i. take (sound_stops sound i) (sound_near sound i)) ∙ front_map stops_limit 0 (near (deck_of deck)) (deck_of deck).stops

  pub sound_pricing : stored_pricing (held_axis deck.axis) (deck_of deck).stops (take deck.stop_count deck.near) ≡ pricing_of (deck_of deck)
  unfolding deck_of objects_of stored_objects
  sound_pricing = λ i. record {
    axis = held_axis deck.axis;
    objects = (ap (stored_objects (held_axis deck.axis) (deck_of deck).stops) listed_near ∙ each_stop (deck_of deck).stops) i;
  }
    where
      each_stop : (stops : List Stop) → stored_objects (held_axis deck.axis) stops (map (near (deck_of deck)) stops)
          ≡ map (λ stop. object_of (held_axis deck.axis) stop (near (deck_of deck) stop)) stops
      each_stop [] = refl
      each_stop (s ∷ ss) = ap (λ (l : List Object). object_of (held_axis deck.axis) s (near (deck_of deck) s) ∷ l) (each_stop ss)
