-- The loop of `columns::before_of`.
use lib.ListN.{length}
use Rattle.columns.proofs.PaidLaws.{Paid}
use Rattle.columns.proofs.before_of.Given as goal

abbrev pub invariant-loop-stop : goal.invariant-loop-stop
invariant-loop-stop l = Paid l.fn.stops l.fn.near l.sum (length l.yielded)
