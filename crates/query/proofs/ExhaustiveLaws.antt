-- The exhaustive search finds the cheapest point of the area, the earliest among equals, which is also what every done search reports.
use mathlib.Core.Path.{◌≡◌, sym, ap, subst}
use mathlib.Core.List.Memᴰ
use mathlib.Core.List.{map, Memᴰ}
use Prim.Native.Nat.{ℕ}
use lib.IntN.{ℤ}
use Rattle.numbers.proofs.Members.{flat_map_member, flat_map_from}
use Rattle.query.specs.Place.{Place, In, NonEmpty, x_axis, y_axis, coordinate, corner}
use Rattle.query.specs.Deck.{Deck}
use Rattle.query.specs.Grid.{Grid, lines_along, grid}
use Rattle.query.specs.Problem.{Problem, problem}
use Rattle.query.specs.Order.{Priced}
use Rattle.query.specs.Search.{priced_at, run}
use Rattle.query.specs.Figures.{figures, figures_of, done}
use Rattle.query.specs.Exhaustive.{crossings, exhaustive}
use Rattle.query.specs.ExhaustiveLaw.{ExhaustiveLaw}
use Rattle.query.proofs.Axes.{for_both, along_in}
use Rattle.query.proofs.LineLaws.{lines_along_lem, lines_range}
use Rattle.query.proofs.CutLaws.{cut_law}
use Rattle.query.proofs.KeyOrder.{better_strict}
use Rattle.query.proofs.Best.{best_of_new}
use Rattle.query.proofs.Lawful.{OnLines}
use Rattle.query.proofs.Invariant.{first_ok, best_of_ok}
use Rattle.query.proofs.Beaten.{Cheapest, best_costs, cheapest_beats, cheapest_only}
use Rattle.query.proofs.Promise3.{lawful, done_cheapest, promise_3}

-- ---- the crossings are the places on a vertical and a horizontal line
abbrev at : ℤ → ℤ → Place
at v h = record { x = v; y = h }

pub crossings_on : (G : Grid) (p : Place) → Memᴰ p (crossings G) → OnLines G p
unfolding crossings
crossings_on G p m =
    let (v, on-v, n) = flat_map_from (λ v. map (at v) G.horizontal) G.vertical m in
    let (h, on-h, e) = Memᴰ.of_map (at v) G.horizontal n in
    for_both (λ axis. Memᴰ (coordinate axis p) (lines_along G axis)) (Memᴰ.cast (ap (λ (q : Place). q.x) (sym e)) on-v)
    (Memᴰ.cast (ap (λ (q : Place). q.y) (sym e)) on-h)

pub on_crossings : (G : Grid) (p : Place) → OnLines G p → Memᴰ p (crossings G)
unfolding crossings
on_crossings G p on = flat_map_member (λ v. map (at v) G.horizontal) G.vertical (on x_axis) (Memᴰ.map (at p.x) (on y_axis))

module _ (deck : Deck) (full : NonEmpty deck.area) where
  crossing_in : (p : Place) → OnLines (grid deck) p → In deck.area p
  crossing_in p on = along_in deck.area p (λ axis. lines_range deck axis full (coordinate axis p)
      (subst (Memᴰ (coordinate axis p)) (lines_along_lem deck axis) (on axis)))

  -- no crossing is better than the cheapest, and for each point some crossing is as good
  pub exhaustive_cheapest : Cheapest deck (exhaustive (problem deck))
  unfolding problem exhaustive
  exhaustive_cheapest = record {
    ok = best_of_ok P (lawful deck full) (cut_law P.rules.grid) first (crossings P.rules.grid)
        (first_ok P (lawful deck full) (cut_law P.rules.grid))
        (λ p m. (crossing_in p (crossings_on P.rules.grid p m), crossings_on P.rules.grid p m));
    none_better = λ p h. let (q, within, on, as-good) = (lawful deck full).crossing p h in
        better_strict.chain (exhaustive (problem deck)) (priced_at P.rules q) (priced_at P.rules p)
        (best_of_new P.rules first (crossings P.rules.grid) q (on_crossings P.rules.grid q on)) as-good;
  }
    where
      P : Problem
      P = problem deck

      first : Priced
      first = priced_at P.rules (corner P.area)

  pub exhaustive_law : ExhaustiveLaw deck
  unfolding figures figures_of
  exhaustive_law = record {
    in_area = exhaustive_cheapest.ok.inside;
    costs = best_costs deck (exhaustive (problem deck)) exhaustive_cheapest.ok;
    best = cheapest_beats deck (exhaustive (problem deck)) exhaustive_cheapest;
    done_place = λ n e. ap (λ (b : Priced). b.at) (same n e);
    done_cost = λ n e. ap (λ (b : Priced). b.cost) (same n e);
  }
    where
      same : (n : ℕ) → (figures deck n).state ≡ done → (run (problem deck) n).best ≡ exhaustive (problem deck)
      same n e = cheapest_only deck (run (problem deck) n).best (exhaustive (problem deck))
          (done_cheapest deck full n ((promise_3 deck full n).done_exactly.0 e)) exhaustive_cheapest
