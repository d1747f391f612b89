-- The estimate: no search of a deck passes its cut limit, and its cells suffice.
use mathlib.Core.Path.{◌≡◌, refl, ap}
use mathlib.Core.List.{List, [], ◌∷◌}
use Prim.Native.Nat.{ℕ, ◌+◌, ◌-◌, ◌*◌, ◌≤◌}
use native.Mathlib.Nat.{mul-le-mul}
use native.Mathlib.Omega.{arith}
use lib.ListN.{length}
use Rattle.query.specs.Place.{x_axis, y_axis}
use Rattle.query.specs.Deck.{Deck}
use Rattle.query.specs.Problem.{problem}
use Rattle.query.specs.Order.{Cell}
use Rattle.query.specs.Search.{run}
use Rattle.query.specs.Estimate.{gap_product, cut_limit, cells_needed, estimate}
use Rattle.query.specs.Laws.{EstimateLaw}
use Rattle.query.proofs.LineLaws.{lines_along_lem, lines_law, gaps_law, inside_most}
use Rattle.query.proofs.CutLimit.{cuts_in, run_limit}
use Rattle.query.proofs.Counts.{live_cuts, live_count}

module _ (deck : Deck) where
  -- the cuts that the lines inside the area allow are within the limit
  area_cuts : cuts_in (problem deck).rules.grid deck.area ≤ gap_product deck - 1
  unfolding problem
  area_cuts = product _ _ _ _ (inside_most deck x_axis) (inside_most deck y_axis)
    where
      product : (m n p q : ℕ) → m ≤ p → n ≤ q → m * n - 1 ≤ p * q - 1
      product m n p q h k = omega (arith, mul-le-mul h k)

  -- the cuts made and the live cells are together within it
  within : (n : ℕ) → (run (problem deck) n).cuts + length (run (problem deck) n).live ≤ gap_product deck - 1
  unfolding problem
  within n = omega (arith, area_cuts, run_limit (problem deck) (λ axis. rw (lines_along_lem deck axis) (lines_law deck axis).increasing) n)

  pub cuts_within : (n : ℕ) → (run (problem deck) n).cuts ≤ cut_limit deck
  unfolding cut_limit
  cuts_within n = omega (arith, within n)

  -- a search with a live cell left has made a cut in each round, and has one more to make
  done_within : (n : ℕ) → gap_product deck - 1 ≤ n → (run (problem deck) n).live ≡ []
  done_within n h = go (run (problem deck) n).live refl
    where
      go : (live : List Cell) → (run (problem deck) n).live ≡ live → (run (problem deck) n).live ≡ []
      go [] e = e
      go (c ∷ others) e = absurd (omega (arith, within n, live_cuts (problem deck) n (rw e tt), ap length e))

  pub live_within : (n : ℕ) → length (run (problem deck) n).live ≤ cells_needed deck n
  unfolding cells_needed
  live_within n = omega (arith, live_count (problem deck) n, within n)

  -- rounds + 1 cells are enough, and more rounds need no fewer
  pub needs_most : (n : ℕ) → cells_needed deck n ≤ n + 1
  unfolding cells_needed
  needs_most n = omega arith

  needs_grow : (m n : ℕ) → m ≤ n → cells_needed deck m ≤ cells_needed deck n
  unfolding cells_needed
  needs_grow m n h = omega arith

  -- at least one gap each way
  some_gaps : 1 ≤ gap_product deck
  some_gaps = omega (arith, mul-le-mul (gaps_law deck x_axis).at_least_one (gaps_law deck y_axis).at_least_one)

  pub estimate_law : (rounds : ℕ) → EstimateLaw deck rounds
  unfolding estimate cut_limit
  estimate_law rounds = record {
    less_one = omega (arith, some_gaps);
    cuts = cuts_within;
    done = done_within;
    live = λ n h. omega (arith, live_within n, needs_grow n rounds h);
  }
