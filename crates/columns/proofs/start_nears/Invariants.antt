-- The loop of `columns::start_nears`.
use mathlib.Core.List.{[], ◌∷◌}
use Rattle.columns.specs.Columns.{near_column}
use Rattle.columns.proofs.CopyLaws.{Copied}
use Rattle.columns.proofs.SoFarLaws.{figures}
use Rattle.columns.proofs.start_nears.Given as goal

abbrev pub invariant-loop-i : goal.invariant-loop-i
invariant-loop-i l = Copied l.initial.columns near_column (figures l.initial.columns (record { x = l.post.x; y = l.post.y } ∷ [])) l.n l.columns l.i
