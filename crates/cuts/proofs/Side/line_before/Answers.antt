-- What `cuts::Side::line_before` owes.
use native.Mathlib.Omega.{arith}
use mathlib.Core.Path.{◌≡◌}
use borrow.Author.Rules.{rules}
use Rattle.std.specs.Int.{int_max}
use Rattle.std.specs.Option.{MatchOption}
use Rattle.numbers.proofs.WordTests.{back, fitting}
use Rattle.cuts.proofs.CutRecordLaws.{back_low}
use Rattle.cuts.proofs.NextLaws.{before_last}
use Rattle.cuts.proofs.Side.line_before.Goals as goal

pub returns : goal.returns
returns c =
    let larger : MatchOption c.last.result (back c.map_or.result ≡ c.args.self.now.lo) (λ x. back c.map_or.result ≡ int_max c.args.self.now.lo x.now)
    = search (rules, back_low, fitting) in
    before_last c.args.self.now.lines.now c.args.at c.args.self.now.lo (omega arith) c.last.result c.last.ensures.item larger
