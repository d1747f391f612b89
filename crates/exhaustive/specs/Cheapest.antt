-- The cheapest crossing (RULES "Exhaustive search") as the code finds it: one vertical line after another, and of equal costs the first.
use Rattle.std.specs.Prelude.{ℕ, ◌≡◌, cond, ltb, ℤ, length, drop}
use mathlib.Core.List.{List, map, foldl, ◌++◌}
use Rattle.query.specs.Place.{Place}
use Rattle.columns.specs.Objects.{Pricing}
use Rattle.pricing.specs.ObjectFigures.{cost_of, before_of}
use Rattle.priced_place.specs.declared.PricedPlace.{PricedPlace}
use Rattle.priced_place.specs.ObjectProblem.{priced_place_of}
use Rattle.exhaustive.specs.declared.ramp_sums.ObjectRamps.{ObjectRamps}
use Rattle.exhaustive.specs.Ramps.{ObjectsAdded}

-- the cheaper of two places, the first of them where they cost the same
unfoldable pub cheaper_of : PricedPlace → PricedPlace → PricedPlace
cheaper_of best other = cond (ltb other.cost best.cost) other best

-- the cheapest of one place with its cost and some others, the first among equals
unfoldable pub first_cheapest : Pricing → PricedPlace → List Place → PricedPlace
unfolding cheaper_of cost_of
first_cheapest P first places = foldl (λ best p. cheaper_of best (priced_place_of P p)) first places

-- the crossings of the vertical line at v, in their order
abbrev pub along : List ℤ → ℤ → List Place
along horizontal v = map (λ h. record { x = v; y = h }) horizontal

-- an array after the costs of the crossings of the vertical line at v with some lines were written to its front: the entries behind
-- them are as they were
unfoldable pub costs_along : Pricing → List ℤ → ℤ → List ℕ → List ℕ
unfolding cost_of
costs_along P ls v old = map (λ h. cost_of P (record { x = v; y = h })) ls ++ drop (length ls) old

-- such an array, whatever the objects whose ramps there are, where b is the axis cost of y
pub record Swept (ls : List ℤ) (b : ℕ) (ramps : ObjectRamps) (before : ℕ) (old costs : List ℕ) : Type 0 where
  pub is : (P : Pricing) (m : ℕ) (v : ℤ) → P.axis.b ≡ b → ObjectsAdded P m ls v ramps → before ≡ before_of P
      → costs ≡ costs_along P ls v old

-- the cheapest of one place and the crossings of the vertical line at v, whatever the objects whose costs the array holds
pub record Chosen (ls : List ℤ) (v : ℤ) (costs : List ℕ) (first chosen : PricedPlace) : Type 0 where
  pub is : (P : Pricing) (old : List ℕ) → costs ≡ costs_along P ls v old → chosen ≡ first_cheapest P first (along ls v)
