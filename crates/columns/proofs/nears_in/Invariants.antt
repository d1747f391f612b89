-- The loops of `columns::nears_in`.
use mathlib.Core.Path.{◌≡◌}
use mathlib.Core.List.{map}
use Prim.Native.Nat.{◌≤◌}
use lib.IntN.{nat_abs}
use lib.ListN.{take, drop}
use Rattle.numbers.specs.Padded.{padded}
use Rattle.query.specs.Range.{stops_limit}
use Rattle.columns.specs.Columns.{near_column}
use Rattle.columns.proofs.nears_in.Given as goal

abbrev pub invariant-loop-row : goal.invariant-loop-row
invariant-loop-row l = (l.row ≤ l.n) × (l.near ≡ padded stops_limit 0 (take l.row (map nat_abs (drop near_column l.columns))))
