-- The cheapest of one place and some others, the first among equals: taken list by list.
use mathlib.Core.Path.{◌≡◌, refl}
use mathlib.Core.Bool.{not}
use mathlib.Core.List.{List, [], ◌∷◌, ◌++◌, foldl-append}
use Prim.Native.Nat.{◌<◌, ◌^◌}
use lib.Dec.{T, ltb}
use lib.Signed.{mag}
use Rattle.numbers.proofs.Truth.{holds, fails}
use Rattle.query.specs.Place.{Place}
use Rattle.columns.specs.Objects.{Pricing}
use Rattle.priced_place.specs.declared.PricedPlace.{PricedPlace}
use Rattle.priced_place.specs.ObjectProblem.{priced_place_of}
use Rattle.numbers.proofs.WordTests.{back, fitting}
use Rattle.exhaustive.specs.Cheapest.{cheaper_of, first_cheapest}

-- ---- the cheaper of two
module _ (a b : PricedPlace) where
  pub takes : T (ltb b.cost a.cost) → cheaper_of a b ≡ b
  unfolding cheaper_of
  takes t = rw (holds (ltb b.cost a.cost) t)

  pub leaves : T (not (ltb b.cost a.cost)) → cheaper_of a b ≡ a
  unfolding cheaper_of
  leaves t = rw (fails (ltb b.cost a.cost) t)

-- a priced place made of the fields of one
pub priced_same : (s : PricedPlace) → mag s.at.x < 2 ^ 63 → mag s.at.y < 2 ^ 63 → record { at = record { x = back s.at.x; y = back s.at.y }; cost = s.cost } ≡ s
priced_same s h k = rw (fitting s.at.x h, fitting s.at.y k)

-- ---- of some places
module _ (P : Pricing) where
  pub cheapest_none : (first : PricedPlace) → first_cheapest P first [] ≡ first
  unfolding first_cheapest
  cheapest_none first = refl

  pub cheapest_more : (first : PricedPlace) (p : Place) (ps : List Place)
      → first_cheapest P first (p ∷ ps) ≡ first_cheapest P (cheaper_of first (priced_place_of P p)) ps
  unfolding first_cheapest
  cheapest_more first p ps = refl

  pub cheapest_append : (first : PricedPlace) (ps qs : List Place) → first_cheapest P first (ps ++ qs) ≡ first_cheapest P (first_cheapest P first ps) qs
  unfolding first_cheapest
  cheapest_append first ps qs = foldl-append (λ (b : PricedPlace) (p : Place). cheaper_of b (priced_place_of P p)) first ps qs
