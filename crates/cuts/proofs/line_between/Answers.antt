-- What `cuts::line_between` owes.
use borrow.Author.Rules.{rules}
use Prim.Native.Nat.{◌^◌, ◌<◌}
use lib.IntN.{pos}
use lib.ListN.{get_or}
use lib.Signed.{mag}
use Rattle.numbers.proofs.WordTests.{fitting}
use Rattle.cuts.proofs.CutRecordLaws.{back_high, above_low}
use Rattle.cuts.proofs.BetweenLaws.{first_between, none_between}
use Rattle.cuts.proofs.line_between.Goals as goal

pub returns-then-at-lines : goal.returns-then-at-lines
returns-then-at-lines c =
    let e = c.requires.1 in
    let fits : mag (get_or c.args.lines.now c.first_at_least-at.result (pos 0)) < 2 ^ 63 = search rules in
    rw (fitting _ fits, back_high e) (first_between _ _ _ _ c.requires.0 (above_low e) c.first_at_least-at.ensures c.if-at-lines.true)

pub returns-else-at-lines : goal.returns-else-at-lines
returns-else-at-lines c = none_between _ _ c.args.high _ c.requires.0 (above_low c.requires.1) c.first_at_least-at.ensures c.if-at-lines.false
