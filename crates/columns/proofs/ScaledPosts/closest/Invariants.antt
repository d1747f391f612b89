-- The loop of `columns::ScaledPosts::closest`.
use mathlib.Core.Path.{◌≡◌}
use lib.IntN.{pos}
use lib.ListN.{take}
use Rattle.query.specs.Deck.{plain}
use Rattle.query.specs.Travel.{closest}
use Rattle.columns.specs.Columns.{places}
use Rattle.columns.proofs.ScaledPosts.closest.Given as goal

abbrev pub invariant-loop-j : goal.invariant-loop-j
invariant-loop-j l = l.least ≡ pos (closest plain (record { x = l.p.x; y = l.p.y }) (take l.j (places l.self.x l.self.y)))
