-- The cuts that the rounds of a search make, one after another (RULES "Rounds"): which cell, and at which line.
use Rattle.std.specs.Prelude.{ℕ, zero, suc, List, [], ◌++◌, map, take}
use Rattle.query.specs.Place.{Rect}
use Rattle.query.specs.Grid.{Grid}
use Rattle.query.specs.Problem.{Problem}
use Rattle.query.specs.Cut.{Line, cut_line}
use Rattle.query.specs.Order.{Cell}
use Rattle.query.specs.Search.{run}

pub record Cut : Type 0 where
  pub cell : Rect
  pub line : Line

-- how a cell is cut
abbrev pub cell_cut : Grid → Cell → Cut
cell_cut G c = record { cell = c.rect; line = cut_line G c.rect }

-- the cuts of the first n rounds: a round cuts the first live cell, and none where none is live
unfoldable pub cuts_made : Problem → ℕ → List Cut
unfolding cut_line run
cuts_made P zero = []
cuts_made P (suc n) = cuts_made P n ++ map (cell_cut P.rules.grid) (take 1 (run P n).live)
