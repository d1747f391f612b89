-- near after a change: as long as before, and as before up to the longest travel. What is past the end of a list is 0.
use mathlib.Core.Path.{◌≡◌, refl, sym, ap, subst}
use mathlib.Core.List.{List, [], ◌∷◌, ◌++◌, map, zip_with, Memᴰ}
use Prim.Native.Nat.{ℕ, zero, suc, ◌≤◌}
use native.Mathlib.Nat.{zero-add}
use native.Mathlib.Omega.{arith}
use lib.Dec.{eqb}
use lib.ListN.{length, take, drop, length-take}
use Rattle.numbers.proofs.Members.{length_non_empty}
use Rattle.numbers.proofs.Truth.{cond_ind}
use Rattle.query.specs.Place.{Place}
use Rattle.query.specs.Deck.{AxisCosts}
use Rattle.query.specs.Travel.{travel, closest}
use Rattle.query.specs.Range.{PlaceInRange, StopInRange, axis_cost_limit, travel_limit}
use Rattle.query.proofs.NearLaws.{closest_some}
use Rattle.query.proofs.Ranges.{costs_limit}
use Rattle.deck.specs.declared.Deck.{Deck}
use Rattle.deck.specs.Values.{stop_of}
use Rattle.deck.specs.Ranges.{StopsInRange, NearsInRange}
use Rattle.deck.proofs.DeckLaws.{Listed}
use Rattle.near_change.specs.NearChange.{near_with, near_without}
use Rattle.change.specs.ChangedRecord.{renewed}
use Rattle.change.proofs.FrontChanges.{EachUpTo}

-- ---- as many made anew as a list has elements, each of an element and of the number that was there
module _ {A : Type 0} (f : A → ℕ → ℕ) where
  anew_length : (ps : List A) (xs : List ℕ) → length (take (length ps) (zip_with f ps xs) ++ drop (length ps) xs) ≡ length xs
  unfolding zip_with
  anew_length [] xs = refl
  anew_length (p ∷ ps) [] = refl
  anew_length (p ∷ ps) (x ∷ xs) = ap suc (anew_length ps xs)

  module _ {B : Type 0} (P : B → Type 0) (held : A → B) (most : ℕ) (each : (a : A) (m : ℕ) → P (held a) → m ≤ most → f a m ≤ most) where
    anew_up_to : (ps : List A) (xs : List ℕ) → ((b : B) → Memᴰ b (map held ps) → P b) → EachUpTo most xs (length ps) →
        EachUpTo most (take (length ps) (zip_with f ps xs) ++ drop (length ps) xs) (length ps)
    unfolding zip_with
    anew_up_to [] xs all few i l = absurd (omega arith)
    anew_up_to (p ∷ ps) [] all few i l = omega arith
    anew_up_to (p ∷ ps) (x ∷ xs) all few zero l = each p x (all (held p) (Memᴰ.head refl)) (few 0 (omega arith))
    anew_up_to (p ∷ ps) (x ∷ xs) all few (suc i) l =
        anew_up_to ps xs (λ b m. all b (Memᴰ.tail m)) (λ j k. few (suc j) (omega arith)) i (omega arith)

-- ---- of the stops of a record
module _ (deck : Deck) (f : Place → ℕ → ℕ) where
  pub renewed_length : length (renewed deck f) ≡ length deck.near
  unfolding renewed
  renewed_length =
      rw (zero-add (length (take deck.stop_count deck.stops))) (anew_length (λ s m. f (stop_of s).at m) (take deck.stop_count deck.stops) deck.near)

  module _ (listed : Listed deck) (stops : StopsInRange (take deck.stop_count deck.stops))
      (each : (q : Place) (m : ℕ) → PlaceInRange q → m ≤ travel_limit → f q m ≤ travel_limit) where
    pub renewed_up_to : EachUpTo travel_limit deck.near deck.stop_count → EachUpTo travel_limit (renewed deck f) deck.stop_count
    unfolding renewed
    renewed_up_to few =
        let count : length (take deck.stop_count deck.stops) ≡ deck.stop_count =
        omega (arith, length-take deck.stop_count deck.stops, listed.stops, listed.sized.stops) in
        subst (EachUpTo travel_limit _) count (rw (zero-add (length (take deck.stop_count deck.stops)))
        (anew_up_to (λ s m. f (stop_of s).at m) StopInRange stop_of travel_limit (λ s m r. each (stop_of s).at m r.place)
        (take deck.stop_count deck.stops) deck.near stops.each (subst (EachUpTo travel_limit deck.near) (sym count) few)))

    pub renewed_range : {nears : List ℕ} → nears ≡ renewed deck f → NearsInRange deck.near deck.stop_count → NearsInRange nears deck.stop_count
    renewed_range e nears = rw e (record { count = omega (arith, renewed_length, nears.count); range = renewed_up_to nears.range })

-- ---- near in range
-- the travel to the closest of some posts
pub closest_limit : {axis : AxisCosts} {posts : List Place} → (axis.a ≤ axis_cost_limit) × (axis.b ≤ axis_cost_limit) → 1 ≤ length posts →
    ((post : Place) → Memᴰ post posts → PlaceInRange post) → (p : Place) → PlaceInRange p → closest axis p posts ≤ travel_limit
closest_limit {axis} {posts} most some each p h =
    let (post, i, e) = closest_some axis p posts (length_non_empty posts some) in
    omega (arith, e, costs_limit axis most p post h (each post i))

-- with one more post, and with one less, where the closest of those left is in range
pub with_limit : (axis : AxisCosts) (p q : Place) (m : ℕ) → PlaceInRange q → m ≤ travel_limit → near_with axis p q m ≤ travel_limit
unfolding near_with
with_limit axis p q m r h = omega arith

pub without_limit : (axis : AxisCosts) (posts : List Place) → ((q : Place) → PlaceInRange q → closest axis q posts ≤ travel_limit) →
    (p q : Place) (m : ℕ) → PlaceInRange q → m ≤ travel_limit → near_without axis p posts q m ≤ travel_limit
unfolding near_without
without_limit axis posts limit p q m r h = cond_ind (λ (n : ℕ). n ≤ travel_limit) (eqb m (travel axis q p)) (λ t. limit q r) (λ t. h)
