-- The loops of `columns::put_nears`.
use mathlib.Core.Path.{◌≡◌}
use Prim.Native.Nat.{◌≤◌}
use lib.ListN.{take}
use Rattle.columns.specs.Columns.{places}
use Rattle.columns.specs.ClosestSoFar.{columns_so_far}
use Rattle.columns.proofs.put_nears.Given as goal

abbrev pub invariant-loop-j : goal.invariant-loop-j
invariant-loop-j l = (l.j ≤ l.posts.count) × (l.columns ≡ columns_so_far l.initial.columns l.n (take l.j (places l.posts.x l.posts.y)))
