-- The cheapest point of an area, the earliest among equals: it beats every other point, and there is only one.
use mathlib.Core.Path.{◌≡◌, sym, ap, subst}
use mathlib.Core.Bool.{not}
use mathlib.Core.Logic.{⊎_elim, ◌≢◌}
use native.Mathlib.Omega.{arith}
use lib.Dec.{T, ltb, ltb→lt, nltb→le}
use lib.Signed.{lt_z, ◌≤ℤ◌}
use Rattle.numbers.proofs.Truth.{test}
use Rattle.numbers.proofs.Integer.{order}
use Rattle.query.specs.Place.{Place, In, coordinate}
use Rattle.query.specs.Deck.{Deck}
use Rattle.query.specs.Cost.{cost}
use Rattle.query.specs.Problem.{problem}
use Rattle.query.specs.Order.{Priced, better}
use Rattle.query.specs.Search.{priced_at}
use Rattle.query.specs.Promise3.{Beaten, costs_more, further_right, further_back}
use Rattle.query.proofs.Axes.{for_both, place_eq}
use Rattle.query.proofs.KeyOrder.{not_better_cost, not_better_earlier, not_earlier_x, not_earlier_y, not_better_antisym}
use Rattle.query.proofs.Invariant.{NotBetter, BestOk}

-- a priced point of the area such that no point of the area is better
pub record Cheapest (deck : Deck) (best : Priced) : Type 0 where
  pub ok : BestOk (problem deck) best
  pub none_better : (p : Place) → In deck.area p → NotBetter (priced_at (problem deck).rules p) best

module _ (deck : Deck) where
  -- a place that is not better than another is it, or is beaten by it
  beaten : (best p : Place) → T (not (better (priced_at (problem deck).rules p) (priced_at (problem deck).rules best))) → p ≢ best → Beaten deck best p
  unfolding problem
  beaten best p t apart = ⊎_elim (λ more. costs_more (ltb→lt (cost deck best) (cost deck p) more))
      (λ same. further (omega (arith, nltb→le, not_better_cost (priced_at (problem deck).rules p) (priced_at (problem deck).rules best) t)))
      (test (ltb (cost deck best) (cost deck p)))
    where
      behind : (same : cost deck p ≡ cost deck best) → best.x ≤ℤ p.x → (p.x ≡ best.x → best.y ≤ℤ p.y) → Beaten deck best p
      behind same h k =
          ⊎_elim (λ right. further_right same (record { lt = right }))
          (λ level. let e : p.x ≡ best.x = omega (arith, order) in
          ⊎_elim (λ back. further_back same e (record { lt = back }))
          (λ front. absurd (apart (place_eq p best (for_both (λ axis. coordinate axis p ≡ coordinate axis best) e (omega (arith, order, k e))))))
          (test (lt_z best.y p.y)))
          (test (lt_z best.x p.x))

      further : cost deck p ≡ cost deck best → Beaten deck best p
      further same = let late = not_better_earlier (priced_at (problem deck).rules p) (priced_at (problem deck).rules best) t same in
          behind same (not_earlier_x p best late) (not_earlier_y p best late)

  pub best_costs : (best : Priced) → BestOk (problem deck) best → cost deck best.at ≡ best.cost
  unfolding problem
  best_costs best ok = sym (ap (λ (b : Priced). b.cost) ok.is)

  pub cheapest_beats : (best : Priced) → Cheapest deck best → (p : Place) → In deck.area p → p ≢ best.at → Beaten deck best.at p
  cheapest_beats best c p h apart = beaten best.at p (subst (NotBetter (priced_at (problem deck).rules p)) c.ok.is (c.none_better p h)) apart

  pub cheapest_only : (p q : Priced) → Cheapest deck p → Cheapest deck q → p ≡ q
  unfolding problem
  cheapest_only p q c d = not_better_antisym p q (not_better p q c d) (not_better q p d c)
    where
      not_better : (p q : Priced) → Cheapest deck p → Cheapest deck q → NotBetter p q
      not_better p q c d = subst (λ (b : Priced). NotBetter b q) (sym c.ok.is) (d.none_better p.at c.ok.inside)
