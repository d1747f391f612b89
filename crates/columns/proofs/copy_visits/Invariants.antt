-- The loop of `columns::copy_visits`.
use mathlib.Core.List.{map}
use lib.IntN.{pos}
use lib.ListN.{length}
use Rattle.columns.proofs.CopyLaws.{Copied}
use Rattle.columns.proofs.copy_visits.Given as goal

abbrev pub invariant-loop-i : goal.invariant-loop-i
invariant-loop-i l = let visits = map (λ s. pos s.visits) l.from in Copied l.initial.to 0 visits (length visits) l.to l.i
