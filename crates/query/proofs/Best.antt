-- The best of the places priced so far: it is one of them, and none of them is better.
use mathlib.Core.Path.{◌≡◌, refl}
use mathlib.Core.Bool.{not, cond}
use mathlib.Core.Logic.{◌⊎◌, inl, inr, ⊎_elim}
use mathlib.Core.List.Memᴰ
use mathlib.Core.List.{List, [], ◌∷◌, map, Memᴰ}
use lib.Dec.{T}
use Rattle.numbers.specs.Lists.{least_by}
use Rattle.numbers.proofs.Members.{least_member, least_le}
use Rattle.query.specs.Place.{Place}
use Rattle.query.specs.Problem.{Rules}
use Rattle.query.specs.Order.{Priced, better}
use Rattle.query.specs.Search.{priced_at, best_of}
use Rattle.query.proofs.KeyOrder.{better_strict}

-- the best of none more, and of one more and others
pub best_of_nil : (R : Rules) (best : Priced) → best_of R best [] ≡ best
unfolding best_of
best_of_nil R best = refl

pub best_of_cons : (R : Rules) (best : Priced) (p : Place) (ps : List Place) →
    best_of R best (p ∷ ps) ≡ best_of R (cond (better (priced_at R p) best) (priced_at R p) best) ps
unfolding best_of least_by
best_of_cons R best p ps = refl

module _ (R : Rules) (best : Priced) (places : List Place) where
  pub best_of_from : (best_of R best places ≡ best) ⊎ ((p : Place) × Memᴰ p places × (priced_at R p ≡ best_of R best places))
  unfolding best_of
  best_of_from = ⊎_elim inl (λ m. inr (Memᴰ.of_map (priced_at R) places m))
      (Memᴰ.cases_cons (least_member better better_strict best (map (priced_at R) places)))

  pub best_of_old : T (not (better best (best_of R best places)))
  unfolding best_of
  best_of_old = least_le better better_strict best (map (priced_at R) places) (Memᴰ.head refl)

  pub best_of_new : (p : Place) → Memᴰ p places → T (not (better (priced_at R p) (best_of R best places)))
  unfolding best_of
  best_of_new p m = least_le better better_strict best (map (priced_at R) places) (Memᴰ.tail (Memᴰ.map (priced_at R) m))
