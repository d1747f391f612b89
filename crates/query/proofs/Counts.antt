-- What is counted: a round makes one cut unless none is live, so that a run of n rounds makes n cuts unless it is done; it keeps at most
-- n + 1 live cells, and its count is that of its cuts.
use mathlib.Core.Path.{◌≡◌, refl, ap, subst, ◌∙◌}
use mathlib.Core.List.{List, [], ◌∷◌, map}
use Prim.Native.Nat.{ℕ, zero, suc, ◌+◌, ◌≤◌}
use native.Mathlib.Omega.{arith}
use lib.Dec.{T}
use lib.ListN.{length, length-append, take}
use Rattle.numbers.specs.Lists.{non_empty}
use Rattle.numbers.proofs.Members.{insert_by_length, keep_length}
use Rattle.query.specs.Grid.{Grid}
use Rattle.query.specs.Problem.{Rules, Problem}
use Rattle.query.specs.Order.{Cell}
use Rattle.query.specs.Search.{Search, is_live, cell_of, start_best, start, cells_after, best_after, round_on, round, run}
use Rattle.query.specs.History.{cell_cut, cuts_made}
use Rattle.query.specs.Laws.{RoundLaw}
use Rattle.query.proofs.CellsAfter.{after_is}

module _ (P : Problem) where
  abbrev G : Grid
  G = P.rules.grid

  abbrev R : Rules
  R = P.rules

  -- a run that still has a live cell has made a cut in each of its rounds
  round_live : (s : Search) (live : List Cell) → s.live ≡ live → T (non_empty (round_on R s live).live) → T (non_empty live)
  unfolding round_on
  round_live s [] e t = subst (λ (l : List Cell). T (non_empty l)) e t
  round_live s (c ∷ others) e t = tt

  round_cuts : (s : Search) (live : List Cell) → T (non_empty live) → (round_on R s live).cuts ≡ suc s.cuts
  unfolding round_on
  round_cuts s [] t = absurd t
  round_cuts s (c ∷ others) t = refl

  pub live_cuts : (n : ℕ) → T (non_empty (run P n).live) → (run P n).cuts ≡ n
  unfolding run round start
  live_cuts zero t = refl
  live_cuts (suc n) t = let u = round_live (run P n) (run P n).live refl t in round_cuts (run P n) (run P n).live u ∙ ap suc (live_cuts n u)

  -- a round makes one cut exactly if some cell is live
  round_live_cuts : (s : Search) (live : List Cell) → (round_on R s live).cuts ≡ suc s.cuts → T (non_empty live)
  unfolding round_on
  round_live_cuts s [] e = absurd (omega arith)
  round_live_cuts s (c ∷ others) e = tt

  no_round : (s : Search) (live : List Cell) → live ≡ [] → round_on R s live ≡ s
  unfolding round_on
  no_round s [] e = refl
  no_round s (c ∷ others) e = cc

  pub round_law : (n : ℕ) → RoundLaw P n
  unfolding run round
  round_law n = record {
    one_cut = (round_cuts (run P n) (run P n).live, round_live_cuts (run P n) (run P n).live);
    no_cut = no_round (run P n) (run P n).live;
  }

  -- at most one live cell more than there were cuts, so at most n + 1 after n rounds
  after_length : (c : Cell) (others : List Cell) → length (cells_after R c others) ≡ suc (suc (length others))
  after_length c others = rw (after_is R c others, insert_by_length, insert_by_length)

  round_length : (s : Search) (live : List Cell) → s.live ≡ live → length (round_on R s live).live ≤ suc (length live)
  unfolding round_on
  round_length s [] e = rw e (omega arith)
  round_length s (c ∷ others) e = omega (arith, after_length c others, keep_length (is_live G (best_after R s.best c)) (cells_after R c others))

  pub live_count : (n : ℕ) → length (run P n).live ≤ n + 1
  unfolding run round start
  live_count zero = keep_length (is_live G (start_best P)) (cell_of R P.area ∷ [])
  live_count (suc n) = omega (arith, live_count n, round_length (run P n) (run P n).live refl)

  -- the count is that of the cuts
  round_made : (s : Search) (live : List Cell) → (round_on R s live).cuts ≡ s.cuts + length (map (cell_cut G) (take 1 live))
  unfolding round_on
  round_made s [] = omega arith
  round_made s (c ∷ others) = omega arith

  pub cuts_made_lem : (n : ℕ) → (run P n).cuts ≡ length (cuts_made P n)
  unfolding run round start cuts_made
  cuts_made_lem zero = refl
  cuts_made_lem (suc n) =
      omega (arith, cuts_made_lem n, round_made (run P n) (run P n).live, length-append (cuts_made P n) (map (cell_cut G) (take 1 (run P n).live)))

  -- at most a cut a round
  round_most : (s : Search) (live : List Cell) → (round_on R s live).cuts ≤ suc s.cuts
  unfolding round_on
  round_most s [] = omega arith
  round_most s (c ∷ others) = omega arith

  pub cuts_most : (n : ℕ) → (run P n).cuts ≤ n
  unfolding run round start
  cuts_most zero = omega arith
  cuts_most (suc n) = omega (arith, cuts_most n, round_most (run P n) (run P n).live)
