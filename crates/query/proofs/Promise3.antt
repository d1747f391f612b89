-- Promise 3, for every deck with a non-empty area and every number of rounds.
use mathlib.Core.Path.{◌≡◌, refl}
use mathlib.Core.Logic.{◌↔◌}
use mathlib.Core.List.{List, [], ◌∷◌}
use Prim.Native.Nat.{ℕ, suc, ◌≤◌}
use native.Mathlib.Omega.{arith}
use lib.Dec.{T}
use lib.Signed.{◌≤ℤ◌}
use Rattle.numbers.specs.Lists.{non_empty}
use Rattle.numbers.proofs.Integer.{order}
use Rattle.query.specs.Place.{NonEmpty, low_edge, high_edge}
use Rattle.query.specs.Deck.{Deck}
use Rattle.query.specs.Problem.{problem}
use Rattle.query.specs.Order.{Cell}
use Rattle.query.specs.Search.{round, run}
use Rattle.query.specs.Figures.{done, stopped, state_of, high, low, figures_of, figures}
use Rattle.query.specs.Laws.{edge_low, edge_high}
use Rattle.query.specs.Promise3.{Promise3}
use Rattle.query.proofs.BoundLaws as BoundLaws
use Rattle.query.proofs.LineLaws.{lines_along_lem, lines_law}
use Rattle.query.proofs.CutLaws.{cut_law}
use Rattle.query.proofs.Crossing as Crossing
use Rattle.query.proofs.Lawful.{Lawful}
use Rattle.query.proofs.Invariant.{Ok, run_ok}
use Rattle.query.proofs.FigureLaws as FigureLaws
use Rattle.query.proofs.Beaten.{Cheapest, best_costs, cheapest_beats}
use Rattle.query.proofs.EstimateLaws.{cuts_within}
use Rattle.query.proofs.Counts.{live_cuts, cuts_made_lem}

-- the rules are lawful: the paper's Theorem 2, and the like of its Theorem 4 for the bound, also of parts
pub lawful : (deck : Deck) → NonEmpty deck.area → Lawful (problem deck)
unfolding problem
lawful deck full = record {
  non_empty = full;
  low_line = λ axis. rw (lines_along_lem deck axis) (((lines_law deck axis).named (low_edge axis deck.area)).1 (edge_low refl));
  high_line = λ axis. rw (lines_along_lem deck axis) (((lines_law deck axis).named (high_edge axis deck.area)).1 (edge_high refl));
  increasing = λ axis. rw (lines_along_lem deck axis) (lines_law deck axis).increasing;
  below = λ r p h. omega (arith, order, BoundLaws.below deck r p h);
  part = λ r q n h k. omega (arith, order, BoundLaws.part deck r q n h k);
  crossing = λ p h. let (q, good) = Crossing.crossing deck p h in
      (q, good.in_area, λ axis. rw (lines_along_lem deck axis) (good.on_lines axis), good.not_worse);
}

module _ (deck : Deck) (full : NonEmpty deck.area) where
  -- what is proved of a search with these laws, at this deck
  ok : (n : ℕ) → Ok (problem deck) (run (problem deck) n).best (run (problem deck) n).live
  ok n = run_ok (problem deck) (lawful deck full) (cut_law (problem deck).rules.grid) n

  -- ---- the clauses
  done_exactly : (cells : List Cell) → (state_of cells ≡ done) ↔ (cells ≡ [])
  done_exactly [] = (λ e. refl, λ e. refl)
  done_exactly (c ∷ cells) = (λ e. cc, λ e. cc)

  stopped_exactly : (n cuts : ℕ) (cells : List Cell) → (T (non_empty cells) → cuts ≡ n) → (state_of cells ≡ stopped) ↔ ((cuts ≡ n) × T (non_empty cells))
  stopped_exactly n cuts [] h = (λ e. absurd (clash e), λ r. absurd r.1)
    where
      clash : done ≡ stopped → ⊥
      clash e = let z : ◌≡◌ {A = ℕ} 0 1 = cc in omega arith
  stopped_exactly n cuts (c ∷ cells) h = (λ e. (h tt, tt), λ r. refl)

  -- the place of a done search
  pub done_cheapest : (n : ℕ) → (run (problem deck) n).live ≡ [] → Cheapest deck (run (problem deck) n).best
  unfolding problem
  done_cheapest n e = record {
    ok = (ok n).best_ok;
    none_better = FigureLaws.done_best (problem deck) (lawful deck full) (cut_law (problem deck).rules.grid) (run (problem deck) n) (ok n) e;
  }

  one_more_low : (n : ℕ) → low (run (problem deck) n) ≤ℤ low (run (problem deck) (suc n))
  unfolding run round
  one_more_low n = FigureLaws.low_rises (problem deck) (lawful deck full) (cut_law (problem deck).rules.grid) (run (problem deck) n)
      (run (problem deck) n).live refl (ok n)

  one_more_high : (n : ℕ) → high (run (problem deck) (suc n)) ≤ high (run (problem deck) n)
  unfolding run round
  one_more_high n = FigureLaws.high_falls (problem deck) (lawful deck full) (cut_law (problem deck).rules.grid) (run (problem deck) n)
      (run (problem deck) n).live (ok n)

  pub promise_3 : (n : ℕ) → Promise3 deck n (figures deck n)
  unfolding figures figures_of problem
  promise_3 n = record {
    in_area = (ok n).best_ok.inside;
    costs_high = best_costs deck (run (problem deck) n).best (ok n).best_ok;
    low_below_all = FigureLaws.low_le_cost (problem deck) (lawful deck full) (cut_law (problem deck).rules.grid) (run (problem deck) n) (ok n);
    low_rises = one_more_low n;
    high_falls = one_more_high n;
    done_best = λ e. cheapest_beats deck (run (problem deck) n).best (done_cheapest n ((done_exactly (run (problem deck) n).live).0 e));
    done_exactly = done_exactly (run (problem deck) n).live;
    stopped_exactly = stopped_exactly n (run (problem deck) n).cuts (run (problem deck) n).live (live_cuts (problem deck) n);
    rounds_are_cuts = cuts_made_lem (problem deck) n;
    cut_limit_law = cuts_within deck n;
  }
