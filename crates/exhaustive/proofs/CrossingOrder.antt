-- The crossings, line after line, come in the order "earlier", so that the first of the cheapest is the best of the definitions.
use mathlib.Core.Path.{◌≡◌, refl, sym, ap, ◌∙◌}
use mathlib.Core.Bool.{Bool, true, false, not, cond, ◌&&◌, ◌||◌}
use mathlib.Core.Logic.{⊎_elim}
use mathlib.Core.List.Memᴰ
use mathlib.Core.List.{List, [], ◌∷◌, ◌++◌, flat_map, Memᴰ, Pairwise}
use mathlib.Core.List.Pairwise
use mathlib.Core.List.{rel_of_Pairwise-cons}
use native.Mathlib.Omega.{arith}
use lib.Dec.{T, ltb}
use lib.IntN.{ℤ, pos}
use lib.Signed.{lt_z, ◌<ℤ◌}
use Rattle.numbers.specs.Integer.{eq_z}
use Rattle.numbers.proofs.Truth.{not_either, cond_ind}
use Rattle.numbers.proofs.Integer.{order}
use Rattle.numbers.proofs.Members.{flat_map_from}
use Rattle.query.specs.Place.{Place, Rect, corner, earlier}
use Rattle.query.specs.Grid.{Grid}
use Rattle.query.specs.Problem.{Rules}
use Rattle.query.specs.Order.{Priced, precedes, better}
use Rattle.query.specs.Search.{best_of}
use Rattle.query.specs.Exhaustive.{crossings, exhaustive}
use Rattle.query.proofs.Best.{best_of_nil, best_of_cons}
use Rattle.query.proofs.KeyOrder.{not_earlier}
use Rattle.columns.specs.Objects.{Pricing}
use Rattle.pricing.specs.ObjectFigures.{cost_of}
use Rattle.priced_place.specs.declared.PricedPlace.{PricedPlace}
use Rattle.priced_place.specs.ObjectProblem.{object_rules, object_problem, priced_of, priced_place_of}
use Rattle.exhaustive.specs.Cheapest.{cheaper_of, first_cheapest, along}
use Rattle.exhaustive.proofs.CheapestLaws.{cheapest_none, cheapest_more}

-- ---- places in turn: none is earlier than one before it
pub data InTurn : List Place → Type 0 where
  none : InTurn []
  then : {p : Place} {ps : List Place} → ((q : Place) → Memᴰ q ps → T (not (earlier q p))) → InTurn ps → InTurn (p ∷ ps)

turn_append : (ps qs : List Place) → InTurn ps → InTurn qs → ((p q : Place) → Memᴰ p ps → Memᴰ q qs → T (not (earlier q p))) → InTurn (ps ++ qs)
turn_append [] qs none t h = t
turn_append (p ∷ ps) qs (then f s) t h = then (λ q m. ⊎_elim (λ n. f q n) (λ n. h p q (Memᴰ.head refl) n) (Memᴰ.append_cases ps m))
    (turn_append ps qs s t (λ a b m n. h a b (Memᴰ.tail m) n))

further_right : (p q : Place) → p.x <ℤ q.x → T (not (earlier q p))
unfolding earlier
further_right p q h = (not_either (lt_z q.x p.x) (eq_z q.x p.x) (lt_z q.y p.y)).1 (omega (arith, order), λ e. absurd (omega (arith, order)))

on_line : (hs : List ℤ) (v : ℤ) (p : Place) → Memᴰ p (along hs v) → (h : ℤ) × Memᴰ h hs × (record { x = v; y = h } ≡ p)
on_line hs v p m = Memᴰ.of_map (λ (h : ℤ). record { x = v; y = h }) hs m

line_turn : (hs : List ℤ) (v : ℤ) → Pairwise ◌<ℤ◌ hs → InTurn (along hs v)
line_turn [] v s = none
line_turn (h ∷ hs) v s = then behind (line_turn hs v (Pairwise.of_cons s))
  where
    behind : (q : Place) → Memᴰ q (along hs v) → T (not (earlier q (record { x = v; y = h })))
    behind q m =
        let r = on_line hs v q m in
        let l : h <ℤ r.0 = rel_of_Pairwise-cons s ∣ r.1 ∣₁ in
        rw (← r.2) (not_earlier (record { x = v; y = r.0 }) (record { x = v; y = h }) (omega (arith, order)) (omega (arith, order)))

pub crossing_turn : (hs vs : List ℤ) → Pairwise ◌<ℤ◌ hs → Pairwise ◌<ℤ◌ vs → InTurn (flat_map (along hs) vs)
unfolding flat_map
crossing_turn hs [] s t = none
crossing_turn hs (v ∷ vs) s t = turn_append (along hs v) (flat_map (along hs) vs) (line_turn hs v s) (crossing_turn hs vs s (Pairwise.of_cons t)) (λ p q m n.
    let a = on_line hs v p m in
    let b = flat_map_from (along hs) vs n in
    let c = on_line hs b.0 q b.2 in
    let l : v <ℤ b.0 = rel_of_Pairwise-cons t ∣ b.1 ∣₁ in
    rw (← a.2, ← c.2) (further_right (record { x = v; y = a.0 }) (record { x = b.0; y = c.0 }) l))

-- ---- of places in turn, the better are the cheaper
without : (a b c : Bool) → T (not c) → a || (b && c) ≡ a
without true b c t = refl
without false true true t = absurd t
without false true false t = refl
without false false c t = refl

better_cheaper : (p best : Priced) → T (not (earlier p.at best.at)) → better p best ≡ ltb p.cost best.cost
unfolding better precedes
better_cheaper p best t = without (ltb p.cost best.cost) (eq_z (pos p.cost) (pos best.cost)) (earlier p.at best.at) t

module _ (P : Pricing) (G : Grid) where
  abbrev R : Rules
  R = object_rules P G

  cheaper_is : (best p : PricedPlace) → T (not (earlier (priced_of p).at (priced_of best).at)) →
      priced_of (cheaper_of best p) ≡ cond (better (priced_of p) (priced_of best)) (priced_of p) (priced_of best)
  unfolding cheaper_of
  cheaper_is best p t = rw (better_cheaper (priced_of p) (priced_of best) t) (go (ltb p.cost best.cost))
    where
      go : (b : Bool) → priced_of (cond b p best) ≡ cond b (priced_of p) (priced_of best)
      go true = refl
      go false = refl

  later : (first : PricedPlace) (p q : Place) → T (not (earlier q p)) → T (not (earlier q (priced_of first).at))
      → T (not (earlier q (priced_of (cheaper_of first (priced_place_of P p))).at))
  unfolding cheaper_of
  later first p q a b = cond_ind (λ (s : PricedPlace). T (not (earlier q (priced_of s).at))) (ltb (cost_of P p) first.cost) (λ u. a) (λ u. b)

  cheapest_best : (first : PricedPlace) (ps : List Place) → InTurn ps → ((q : Place) → Memᴰ q ps → T (not (earlier q (priced_of first).at)))
      → priced_of (first_cheapest P first ps) ≡ best_of R (priced_of first) ps
  cheapest_best first [] none h = ap priced_of (cheapest_none P first) ∙ sym (best_of_nil R (priced_of first))
  cheapest_best first (p ∷ ps) (then f t) h =
      ap priced_of (cheapest_more P first p ps)
      ∙ cheapest_best (cheaper_of first (priced_place_of P p)) ps t (λ q m. later first p q (f q m) (h q (Memᴰ.tail m)))
      ∙ ap (λ (b : Priced). best_of R b ps) (cheaper_is first (priced_place_of P p) (h p (Memᴰ.head refl)))
      ∙ sym (best_of_cons R (priced_of first) p ps)

  pub cheapest_is : (area : Rect) → InTurn (flat_map (along G.horizontal) G.vertical)
      → ((q : Place) → Memᴰ q (flat_map (along G.horizontal) G.vertical) → T (not (earlier q (corner area))))
      → priced_of (first_cheapest P (priced_place_of P (corner area)) (flat_map (along G.horizontal) G.vertical)) ≡ exhaustive (object_problem P G area)
  unfolding exhaustive crossings
  cheapest_is area t h = cheapest_best (priced_place_of P (corner area)) (flat_map (along G.horizontal) G.vertical) t h
