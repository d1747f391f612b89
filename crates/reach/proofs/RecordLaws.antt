-- The columns of a deck's objects: they can be priced where the deck is in range, and they hold the objects.
use mathlib.Core.Path.{◌≡◌, refl, sym, subst, ◌∙◌}
use mathlib.Core.List.Memᴰ
use mathlib.Core.List.{List, [], ◌∷◌, map, Memᴰ}
use Prim.Native.Nat.{ℕ, suc, ◌≤◌, ◌<◌}
use native.Mathlib.Omega.{arith}
use lib.IntN.{ℤ, pos, nat_abs}
use lib.ListN.{length, get_or, length-map}
use lib.Signed.{◌≤ℤ◌}
use Rattle.numbers.proofs.Integer.{order}
use Rattle.numbers.proofs.Scaling.{scale_most}
use Rattle.numbers.specs.Integer.{times}
use Rattle.numbers.proofs.Members.{each_cons}
use Rattle.numbers.proofs.Padded.{padded_each}
use Rattle.query.specs.Deck.{AxisCosts, Stop, Deck}
use Rattle.query.specs.Range.{InRange, StopInRange, coordinate_limit, stops_limit, visits_limit, axis_cost_limit, travel_limit}
use Rattle.columns.specs.Objects.{Object, objects_of, Pricing, pricing_of, stored_objects, stored_pricing}
use Rattle.deck.specs.Ranges.{CostsInRange, NearsInRange}
use Rattle.columns.specs.Ranges.{scaled_limit}
use Rattle.columns.proofs.StoredLaws.{stored_count}
use Rattle.columns.specs.ObjectColumns.{column, columns_of, objects_in, pricing_in}
use Rattle.columns.proofs.ColumnLaws.{pricing_length, x_cost_at, y_cost_at, columns_objects, columns_axis, x_row, y_row, visits_row, near_row}
use Rattle.reach.specs.Columns.{ObjectInRange, Priceable}
use Rattle.reach.proofs.ReachLaws.{object_of, objects_of_map}

-- what holds of 0 and of each object's number holds all down a column
column_each : (P : ℤ → Type 0) → P (pos 0) → (objects : List Object) (number : Object → ℤ)
    → ((s : Object) → Memᴰ s objects → P (number s)) → (i : ℕ) → P (get_or (column number objects) i (pos 0))
unfolding column
column_each P h objects number each =
    padded_each P (pos 0) h stops_limit (map number objects) (λ a m. let r = Memᴰ.of_map number objects m in subst P r.2 (each r.0 r.1))

-- a natural number in a column, up to k
abbrev UpTo : ℕ → ℤ → Type 0
UpTo k z = (pos 0 ≤ℤ z) × (nat_abs z ≤ k)

priceable : (P : Pricing) → length P.objects ≤ stops_limit → (1 ≤ P.axis.a) × (1 ≤ P.axis.b) → (P.axis.a ≤ axis_cost_limit) × (P.axis.b ≤ axis_cost_limit)
    → ((s : Object) → Memᴰ s P.objects → ObjectInRange s.at.x s.at.y (pos s.visits) (pos s.near))
    → Priceable (columns_of P) (length P.objects)
priceable P few some most each = record {
  count = few;
  row = λ i h.
      let visits = column_each (UpTo visits_limit) (omega (arith, order), omega arith) P.objects (λ s. pos s.visits)
      (λ s m. ((each s m).visits_some, (each s m).visits_range)) i in
      let near = column_each (UpTo travel_limit) (omega (arith, order), omega arith) P.objects (λ s. pos s.near)
      (λ s m. ((each s m).near_some, (each s m).near_range)) i in
      rw (x_row P few i h, y_row P few i h, visits_row P few i h, near_row P few i h)
      (record {
        place = record {
          x_range = column_each (λ z. nat_abs z ≤ scaled_limit) (omega arith) P.objects (λ s. s.at.x) (λ s m. (each s m).place.x_range) i;
          y_range = column_each (λ z. nat_abs z ≤ scaled_limit) (omega arith) P.objects (λ s. s.at.y) (λ s m. (each s m).place.y_range) i;
        };
        visits_some = visits.0;
        visits_range = visits.1;
        near_some = near.0;
        near_range = near.1;
      });
  costs = record {
    long = pricing_length P few;
    x_cost = rw (x_cost_at P few) (record { some = omega (arith, order, some.0); most = most.0 });
    y_cost = rw (y_cost_at P few) (record { some = omega (arith, order, some.1); most = most.1 });
  };
}

each_at : {A : Type 0} (Q : A → Type 0) (d : A) (l : List A) → ((i : ℕ) → i < length l → Q (get_or l i d)) → (x : A) → Memᴰ x l → Q x
each_at Q d [] f x m = elim m [ ]
each_at Q d (y ∷ ys) f x (Memᴰ.head e) = subst Q (sym e) (f 0 (omega arith))
each_at Q d (y ∷ ys) f x (Memᴰ.tail m) = each_at Q d ys (λ i h. f (suc i) (omega arith)) x m

-- ---- the objects of stops in range, each with its near
module _ (axis : AxisCosts) (stops : List Stop) (nears : List ℕ) (costs : CostsInRange axis) (stops-range : (s : Stop) → Memᴰ s stops → StopInRange s)
    {n : ℕ} (stops-count : length stops ≡ n) (few : n ≤ stops_limit) (nears-range : NearsInRange nears (length nears)) (nears-count : length nears ≡ n) where
  near-each : (m : ℕ) → Memᴰ m nears → m ≤ travel_limit
  near-each = each_at (λ (m : ℕ). m ≤ travel_limit) 0 nears nears-range.range

  objects_in_range : (stops : List Stop) (nears : List ℕ) → ((s : Stop) → Memᴰ s stops → StopInRange s) → ((m : ℕ) → Memᴰ m nears → m ≤ travel_limit) →
      (o : Object) → Memᴰ o (stored_objects axis stops nears) → ObjectInRange o.at.x o.at.y (pos o.visits) (pos o.near)
  unfolding stored_objects
  objects_in_range [] ms f g o m = absurd (Memᴰ.not-nil m)
  objects_in_range (s ∷ ss) [] f g o m = absurd (Memᴰ.not-nil m)
  objects_in_range (s ∷ ss) (near ∷ ms) f g o m =
      each_cons (λ (o : Object). ObjectInRange o.at.x o.at.y (pos o.visits) (pos o.near)) (one (f s (Memᴰ.head refl)) (g near (Memᴰ.head refl)))
      (objects_in_range ss ms (λ s m. f s (Memᴰ.tail m)) (λ m n. g m (Memᴰ.tail n))) o m
    where
      one : StopInRange s → near ≤ travel_limit → ObjectInRange (times axis.a s.at.x) (times axis.b s.at.y) (pos s.visits) (pos near)
      one r h = record {
        place = record {
          x_range = scale_most axis.a axis_cost_limit coordinate_limit s.at.x costs.most.0 r.place.x_range;
          y_range = scale_most axis.b axis_cost_limit coordinate_limit s.at.y costs.most.1 r.place.y_range;
        };
        visits_some = omega (arith, order);
        visits_range = r.most_visits;
        near_some = omega (arith, order);
        near_range = h;
      }

  pub stored_priceable : Priceable (columns_of (stored_pricing axis stops nears)) n
  stored_priceable =
      let count = stored_count axis stops nears (stops-count ∙ sym nears-count) ∙ stops-count in
      subst (Priceable (columns_of (stored_pricing axis stops nears))) count
      (priceable (stored_pricing axis stops nears) (omega (arith, count, few)) costs.some costs.most (objects_in_range stops nears stops-range near-each))

-- ---- the deck's
module _ (deck : Deck) (range : InRange deck) where
  objects_count : length (objects_of deck) ≡ length deck.stops
  objects_count = rw objects_of_map (length-map deck.stops (object_of deck))

  few : length (objects_of deck) ≤ stops_limit
  few = omega (arith, objects_count, range.most_stops)

  pub made_objects : objects_in (columns_of (pricing_of deck)) (length deck.stops) ≡ objects_of deck
  made_objects = rw (← objects_count) (columns_objects (pricing_of deck) few)

  pub made_pricing : pricing_in (columns_of (pricing_of deck)) (length deck.stops) ≡ pricing_of deck
  made_pricing = λ i. record { axis = columns_axis (pricing_of deck) few i; objects = made_objects i }
