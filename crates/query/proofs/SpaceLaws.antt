-- Five times as many numbers of cell space as the estimate has cells suffice, and all that is lent is written.
use mathlib.Core.Path.{◌≡◌, refl}
use mathlib.Core.List.{List, [], ◌∷◌}
use Prim.Native.Nat.{ℕ, ◌*◌, ◌≤◌}
use native.Mathlib.Omega.{arith}
use lib.IntN.{pos}
use lib.ListN.{length, length-append}
use Rattle.numbers.proofs.Padded.{padded_length}
use Rattle.query.specs.Deck.{Deck}
use Rattle.query.specs.Problem.{problem}
use Rattle.query.specs.Order.{Cell}
use Rattle.query.specs.Search.{run}
use Rattle.query.specs.Space.{cell_numbers, all_numbers, space, space_needed}
use Rattle.query.specs.Laws.{SpaceLaw}
use Rattle.query.proofs.EstimateLaws.{live_within}
use Rattle.query.proofs.SearchLaws.{run_in_order}

pub all_numbers_length : (cells : List Cell) → length (all_numbers cells) ≡ 5 * length cells
unfolding all_numbers
all_numbers_length [] = refl
all_numbers_length (c ∷ cells) = omega (arith, length-append (cell_numbers c) (all_numbers cells), all_numbers_length cells)

pub space_law : (deck : Deck) (n : ℕ) → SpaceLaw deck n
unfolding space
space_law deck n = record {
  in_order = run_in_order (problem deck) n;
  live_cells = live_within deck n;
  numbers = room;
  whole = λ lent h. padded_length lent (pos 0) (all_numbers (run (problem deck) n).live) (omega (arith, room));
}
  where
    room : length (all_numbers (run (problem deck) n).live) ≤ space_needed deck n
    room = omega (arith, live_within deck n, all_numbers_length (run (problem deck) n).live)
