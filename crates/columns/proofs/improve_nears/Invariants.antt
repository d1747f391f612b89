-- The loops of `columns::improve_nears`.
use Rattle.columns.specs.Columns.{near_column}
use Rattle.columns.proofs.CopyLaws.{Copied}
use Rattle.columns.proofs.SoFarLaws.{better}
use Rattle.columns.proofs.improve_nears.Given as goal

abbrev pub invariant-loop-stop : goal.invariant-loop-stop
invariant-loop-stop l = Copied l.initial.columns near_column (better l.initial.columns (record { x = l.post.x; y = l.post.y })) l.n l.columns l.stop
