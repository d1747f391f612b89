-- The figures of objects as sums over them, and as the figures of the deck whose objects they are.
use mathlib.Core.Path.{◌≡◌, refl, ap, sym, ◌∙◌}
use mathlib.Core.List.{List, [], ◌∷◌, map}
use Prim.Native.Nat.{ℕ, ◌+◌, ◌-◌, ◌*◌, min}
use native.Mathlib.Omega.{arith}
use Rattle.numbers.specs.Lists.{sum_of}
use Rattle.query.specs.Place.{Place, Rect}
use Rattle.query.specs.Deck.{Deck, plain}
use Rattle.query.specs.Travel.{travel}
use Rattle.query.specs.Cost.{cost, before}
use Rattle.query.specs.Bound.{bound}
use Rattle.query.proofs.CostLaws.{cost_sum, bound_sum}
use Rattle.columns.specs.Objects.{scaled_place, scaled_rect, Object, objects_of, Pricing, pricing_of}
use Rattle.columns.proofs.TravelLaws.{travel_scaled}
use Rattle.reach.specs.ObjectReach.{travel_to_of}
use Rattle.reach.proofs.ReachLaws.{travel_to_scaled, object_of, objects_of_map, travel_to_law}
use Rattle.pricing.specs.ObjectFigures.{cost_of, before_of, bound_of}

-- an object's part of `before`
abbrev pub paid_now : Object → ℕ
paid_now s = s.visits * s.near

-- what an object pays for a post at some travel, and so its part of the cost of a scaled place and of the bound of a scaled rectangle
abbrev pub paid_along : (Object → ℕ) → Object → ℕ
paid_along travelled s = s.visits * min s.near (travelled s)

-- and what it saves by it
abbrev pub saved_along : (Object → ℕ) → Object → ℕ
saved_along travelled s = s.visits * (s.near - travelled s)

abbrev pub paid_by : Place → Object → ℕ
paid_by p = paid_along (λ s. travel plain s.at p)

abbrev pub least_paid_by : Rect → Object → ℕ
least_paid_by r = paid_along (travel_to_scaled r)

-- what is paid and what is saved make up what is paid now
module _ (travelled : Object → ℕ) where
  share : (v n t : ℕ) → v * min n t + v * (n - t) ≡ v * n
  share v n t = let whole : min n t + (n - t) ≡ n = omega arith in omega (arith, ap (λ (m : ℕ). v * m) whole)

  pub paid_and_saved : (xs : List Object) → sum_of (paid_along travelled) xs + sum_of (saved_along travelled) xs ≡ sum_of paid_now xs
  unfolding sum_of
  paid_and_saved [] = refl
  paid_and_saved (s ∷ xs) = omega (arith, share s.visits s.near (travelled s), paid_and_saved xs)

module _ (P : Pricing) where
  pub cost_of_sum : (p : Place) → cost_of P p ≡ sum_of (paid_by (scaled_place P.axis p)) P.objects
  unfolding cost_of
  cost_of_sum p = refl

  pub before_of_sum : before_of P ≡ sum_of paid_now P.objects
  unfolding before_of
  before_of_sum = refl

  pub bound_of_sum : (r : Rect) → bound_of P r ≡ sum_of (least_paid_by (scaled_rect P.axis r)) P.objects
  unfolding bound_of travel_to_of
  bound_of_sum r = refl

sum_of_map : {A B : Type 0} (f : B → ℕ) (g : A → B) (xs : List A) → sum_of f (map g xs) ≡ sum_of (λ x. f (g x)) xs
unfolding sum_of
sum_of_map f g [] = refl
sum_of_map f g (x ∷ xs) = ap (λ (n : ℕ). f (g x) + n) (sum_of_map f g xs)

-- ---- the deck's figures
module _ (deck : Deck) where
  pub objects_sum : (f : Object → ℕ) → sum_of f (objects_of deck) ≡ sum_of (λ stop. f (object_of deck stop)) deck.stops
  objects_sum f = rw objects_of_map (sum_of_map f (object_of deck) deck.stops)

  pub before_law : before_of (pricing_of deck) ≡ before deck
  unfolding before
  before_law = before_of_sum (pricing_of deck) ∙ objects_sum paid_now

  pub cost_law : (p : Place) → cost_of (pricing_of deck) p ≡ cost deck p
  cost_law p = cost_of_sum (pricing_of deck) p ∙ objects_sum (paid_by (scaled_place deck.axis p))
      ∙ simp (← travel_scaled deck.axis) (sym (cost_sum deck p))

  pub bound_law : (r : Rect) → bound_of (pricing_of deck) r ≡ bound deck r
  bound_law r = bound_of_sum (pricing_of deck) r ∙ objects_sum (least_paid_by (scaled_rect deck.axis r)) ∙ simp (travel_to_law deck) (sym (bound_sum deck r))
