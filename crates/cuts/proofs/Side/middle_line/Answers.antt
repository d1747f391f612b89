-- What `cuts::Side::middle_line` owes.
use native.Mathlib.Omega.{arith}
use mathlib.Core.Path.{◌≡◌, sym, ◌∙◌}
use lib.Signed.{◌≤ℤ◌, ◌<ℤ◌}
use Rattle.numbers.specs.Integer.{strictly_between}
use Rattle.numbers.specs.Lists.{keep}
use Rattle.query.specs.Cut.{middle_line}
use Rattle.numbers.proofs.WordTests.{back}
use Rattle.numbers.proofs.Words.{is_true, is_false}
use Rattle.numbers.proofs.Integer.{order}
use Rattle.cuts.proofs.NextLaws.{next_by_words}
use Rattle.cuts.proofs.CutRecordLaws.{back_low, back_pair_fits, below_picked, above_picked, line_some, line_none}
use Rattle.cuts.proofs.Side.middle_line.Goals.{Joined-self-below, then-self-below, else-self-below}
use Rattle.cuts.proofs.Side.middle_line.Goals as goal

pub overflow_add-below : goal.overflow_add-below
overflow_add-below c =
    back_pair_fits c.args.self.now.edges (next_by_words c.args.self.now.in_order c.middle.type_inv c.middle.ensures c.first_at_least-at.ensures
    c.line_before-below.ensures c.line_from-above.ensures)

-- the line that is chosen
chosen : (c : Joined-self-below) → c.if-self-below.line
    ≡ middle_line c.args.self.now.lo c.args.self.now.hi (keep (strictly_between c.args.self.now.lo c.args.self.now.hi) c.args.self.now.lines.now)
chosen c =
    let next = next_by_words c.args.self.now.in_order c.middle.type_inv c.middle.ensures c.first_at_least-at.ensures
    c.line_before-below.ensures c.line_from-above.ensures in
    elim c.if-self-below.branch [
      | then-self-below w ↦ sym c.if-self-below.line-is ∙ w.line-is ∙ below_picked c.args.self.now.edges next w.if-self-below.true
      | else-self-below w ↦ sym c.if-self-below.line-is ∙ w.line-is ∙ above_picked c.args.self.now.edges next w.if-self-below.false
    ]

pub returns-then-self-line : goal.returns-then-self-line
returns-then-self-line c =
    let read : back c.args.self.now.lo ≡ c.args.self.now.lo = back_low c.args.self.now.edges in
    let t : c.args.self.now.lo <ℤ c.if-self-below.line = record { lt = rw (read, c.if-self-below.line-is) at (is_true _ c.if-self-line.true) } in
    rw c.if-self-below.line-is (line_some _ _ _ c.if-self-below.line (chosen c.before.before) t)

pub returns-else-self-line : goal.returns-else-self-line
returns-else-self-line c =
    let read : back c.args.self.now.lo ≡ c.args.self.now.lo = back_low c.args.self.now.edges in
    let t = rw (read, c.if-self-below.line-is) at (is_false _ c.if-self-line.false) in
    let low : c.if-self-below.line ≤ℤ c.args.self.now.lo = omega (arith, order, t) in
    line_none _ _ _ c.if-self-below.line (chosen c.before.before) low
