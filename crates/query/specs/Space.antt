-- What the cell space holds after a call (RULES "Cell space"), and how many numbers of it suffice (RULES "Change 3").
use Rattle.std.specs.Prelude.{ℕ, ◌*◌, ℤ, pos}
use mathlib.Core.List.{List, [], ◌∷◌, flat_map}
use Rattle.numbers.specs.Padded.{padded}
use Rattle.query.specs.Deck.{Deck}
use Rattle.query.specs.Problem.{problem}
use Rattle.query.specs.Order.{Cell}
use Rattle.query.specs.Search.{run}
use Rattle.query.specs.Estimate.{cells_needed}

-- the five numbers of a cell
abbrev pub cell_numbers : Cell → List ℤ
cell_numbers c = c.rect.xlo ∷ c.rect.ylo ∷ c.rect.xhi ∷ c.rect.yhi ∷ c.bound ∷ []

-- the numbers that suffice: fewer are refused (RULES "Refusals")
abbrev pub space_needed : Deck → ℕ → ℕ
space_needed deck rounds = 5 * cells_needed deck rounds

unfoldable pub all_numbers : List Cell → List ℤ
unfolding flat_map
all_numbers cells = flat_map cell_numbers cells

-- the numbers that were lent, after a call: the live cells in their order, and zeros behind them
unfoldable pub space : Deck → ℕ → ℕ → List ℤ
unfolding all_numbers padded problem run
space deck n lent = padded lent (pos 0) (all_numbers (run (problem deck) n).live)
