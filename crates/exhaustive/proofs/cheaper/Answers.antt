-- What `exhaustive::cheaper` owes.
use mathlib.Core.Path.{sym, ◌∙◌}
use lib.Dec.{ltb, ltb→lt, lt→ltb, not_T}
use native.Mathlib.Omega.{arith}
use Rattle.exhaustive.proofs.CheapestLaws.{takes, leaves, priced_same}
use Rattle.exhaustive.proofs.cheaper.Goals as goal

pub returns-then-other-best : goal.returns-then-other-best
returns-then-other-best c =
    let a = c.args in
    priced_same a.other (omega arith) (omega arith) ∙ sym (takes a.best a.other (lt→ltb a.other.cost a.best.cost (omega (arith, c.if-other-best.true))))

pub returns : goal.returns
returns c =
    let a = c.args in
    priced_same a.best (omega arith) (omega arith) ∙ sym (leaves a.best a.other
    (not_T (ltb a.other.cost a.best.cost) (λ t. omega (arith, c.if-other-best.false, ltb→lt a.other.cost a.best.cost t))))
