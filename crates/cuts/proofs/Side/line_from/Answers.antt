-- What `cuts::Side::line_from` owes.
use mathlib.Core.Path.{◌≡◌}
use borrow.Author.Rules.{rules}
use Rattle.std.specs.Int.{int_min}
use Rattle.std.specs.Option.{MatchOption}
use Rattle.numbers.proofs.WordTests.{back, fitting}
use Rattle.cuts.proofs.CutRecordLaws.{back_high}
use Rattle.cuts.proofs.NextLaws.{from_found}
use Rattle.cuts.proofs.Side.line_from.Goals as goal

pub returns : goal.returns
returns c =
    let smaller : MatchOption c.get.result (back c.map_or.result ≡ c.args.self.now.hi) (λ x. back c.map_or.result ≡ int_min c.args.self.now.hi x.now)
    = search (rules, back_high, fitting) in
    from_found c.args.self.now.lines.now c.args.at c.args.self.now.hi c.get.result c.get.ensures.lookup smaller
