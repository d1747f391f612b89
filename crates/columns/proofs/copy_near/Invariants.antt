-- The loop of `columns::copy_near`.
use mathlib.Core.List.{map}
use lib.IntN.{ℤ, pos}
use lib.ListN.{length}
use Rattle.columns.proofs.CopyLaws.{Copied}
use Rattle.columns.proofs.copy_near.Given as goal

abbrev pub invariant-loop-i : goal.invariant-loop-i
invariant-loop-i l = Copied l.initial.to 0 (map pos l.from) (length {A = ℤ} (map pos l.from)) l.to l.i
