-- What `search::run::low_of` owes.
use mathlib.Core.Path.{sym, ◌∙◌}
use native.Mathlib.Omega.{arith}
use Rattle.search.proofs.RunLaws.{low_high, low_first}
use Rattle.search.proofs.run.low_of.Goals as goal

pub returns-in-None : goal.returns-in-None
returns-in-None c = low_high c.args.live.now _ c.requires (sym c.in-None.is ∙ c.first.ensures)

pub returns-in-Some : goal.returns-in-Some
returns-in-Some c =
    let e = c.in-Some.first in
    low_first c.args.live.now _ c.requires e (sym c.in-Some.is ∙ c.first.ensures) (omega arith) c.min.result c.min.type_inv c.min.ensures.value
