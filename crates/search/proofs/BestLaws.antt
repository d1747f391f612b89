-- The best place as the code keeps it is that of the definitions, and stays in range.
use mathlib.Core.Path.{◌≡◌, refl, sym, ◌∙◌}
use mathlib.Core.Bool.{Bool, true, false, cond}
use mathlib.Core.List.{List, [], ◌∷◌}
use Prim.Native.Nat.{◌^◌, ◌≤◌, ◌<◌}
use lib.IntN.{ℤ}
use lib.Signed.{mag}
use Rattle.numbers.proofs.WordTests.{back, fitting}
use Rattle.query.specs.Place.{Place, Rect, corner}
use Rattle.query.specs.Grid.{Grid}
use Rattle.query.specs.Range.{cost_limit}
use Rattle.query.specs.Order.{Key, precedes, priced_key, better}
use Rattle.query.specs.Search.{best_of, other_corners, start_best}
use Rattle.query.proofs.Best.{best_of_nil, best_of_cons}
use Rattle.columns.specs.Objects.{Pricing}
use Rattle.reach.specs.Held.{pricing_of_objects}
use Rattle.reach.specs.declared.objects.Objects.{Objects}
use Rattle.pricing.proofs.TurnLaws.{cost_most}
use Rattle.priced_place.specs.declared.PricedPlace.{PricedPlace}
use Rattle.priced_place.specs.ObjectProblem.{object_rules, object_problem, priced_of, priced_place_of}
use Rattle.search.specs.BestPlace.{improved}

-- ---- the better of two
pub priced_better : (p best : PricedPlace) (r : Bool) (k l : Key) → k ≡ priced_key (priced_of p) → l ≡ priced_key (priced_of best)
    → r ≡ precedes k l → r ≡ better (priced_of p) (priced_of best)
unfolding better
priced_better p best r k l f g e = e ∙ (λ i. precedes (f i) (g i))

pub improve_taken : (best p : PricedPlace) (r : Bool) → r ≡ better (priced_of p) (priced_of best) → r ≡ true → p ≡ improved best p
unfolding improved
improve_taken best p r e t = let f : better (priced_of p) (priced_of best) ≡ true = sym e ∙ t in rw f

pub improve_left : (best p : PricedPlace) (r : Bool) → r ≡ better (priced_of p) (priced_of best) → r ≡ false → best ≡ improved best p
unfolding improved
improve_left best p r e t = let f : better (priced_of p) (priced_of best) ≡ false = sym e ∙ t in rw f

improved_is : (best p : PricedPlace) → priced_of (improved best p) ≡ cond (better (priced_of p) (priced_of best)) (priced_of p) (priced_of best)
unfolding improved
improved_is best p = go (better (priced_of p) (priced_of best))
  where
    go : (b : Bool) → priced_of (cond b p best) ≡ cond b (priced_of p) (priced_of best)
    go true = refl
    go false = refl

-- ---- a place that was priced costs no more than the limit
pub priced_limit : (o : Objects) (p : Place) (priced : PricedPlace) → priced ≡ priced_place_of (pricing_of_objects o) p → priced.cost ≤ cost_limit
priced_limit o p priced e = rw e (cost_most o.priceable p)

-- one that was priced at two numbers, read as words
pub priced_words : (P : Pricing) (x y : ℤ) → mag x < 2 ^ 63 → mag y < 2 ^ 63 → (priced : PricedPlace)
    → priced ≡ priced_place_of P (record { x = back x; y = back y }) → priced ≡ priced_place_of P (record { x = x; y = y })
priced_words P x y h g priced e = e ∙ (λ i. priced_place_of P (record { x = fitting x h i; y = fitting y g i }))

-- ---- the best of several
module _ (P : Pricing) (G : Grid) where
  best_more : (best : PricedPlace) (p : Place) (ps : List Place)
      → best_of (object_rules P G) (priced_of best) (p ∷ ps) ≡ best_of (object_rules P G) (priced_of (improved best (priced_place_of P p))) ps
  best_more best p ps = rw (best_of_cons (object_rules P G) (priced_of best) p ps, improved_is best (priced_place_of P p))

  pub best_two : (best : PricedPlace) (p q : Place)
      → priced_of (improved (improved best (priced_place_of P p)) (priced_place_of P q)) ≡ best_of (object_rules P G) (priced_of best) (p ∷ q ∷ [])
  best_two best p q =
      sym (best_more best p (q ∷ [])
      ∙ best_more (improved best (priced_place_of P p)) q []
      ∙ best_of_nil (object_rules P G) (priced_of (improved (improved best (priced_place_of P p)) (priced_place_of P q))))

  -- of the corners of an area
  corners_best : (area : Rect)
      → priced_of (improved (improved (improved (priced_place_of P (corner area)) (priced_place_of P (record { x = area.xlo; y = area.yhi })))
      (priced_place_of P (record { x = area.xhi; y = area.ylo }))) (priced_place_of P (record { x = area.xhi; y = area.yhi })))
      ≡ start_best (object_problem P G area)
  unfolding start_best other_corners
  corners_best area =
      let first = priced_place_of P (corner area) in
      let rest = record { x = area.xhi; y = area.ylo } ∷ record { x = area.xhi; y = area.yhi } ∷ [] in
      best_two (improved first (priced_place_of P (record { x = area.xlo; y = area.yhi }))) (record { x = area.xhi; y = area.ylo })
      (record { x = area.xhi; y = area.yhi })
      ∙ sym (best_more first (record { x = area.xlo; y = area.yhi }) rest)

  -- as the code finds it, one corner after another
  pub start_best_is : (area : Rect) (a b c d : PricedPlace) → a ≡ priced_place_of P (corner area)
      → b ≡ priced_place_of P (record { x = area.xlo; y = area.yhi })
      → c ≡ priced_place_of P (record { x = area.xhi; y = area.ylo })
      → d ≡ priced_place_of P (record { x = area.xhi; y = area.yhi })
      → (one two best : PricedPlace) → one ≡ improved a b → two ≡ improved one c → best ≡ improved two d
      → priced_of best ≡ start_best (object_problem P G area)
  start_best_is area a b c d fa fb fc fd one two best f₁ f₂ f₃ = rw (f₃, f₂, f₁, fa, fb, fc, fd) (corners_best area)
