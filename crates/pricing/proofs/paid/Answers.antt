-- What `pricing::paid` owes.
use Rattle.reach.proofs.NarrowLaws.{visits_word}
use Rattle.pricing.proofs.PricedWords.{smaller}
use Rattle.pricing.proofs.paid.Goals as goal

pub returns : goal.returns
returns c =
    let row = c.args.row.in_range in
    rw (visits_word row, smaller _ _ row.near_some row.near_range c.requires.0 c.requires.1 _ c.min-m.ensures.value)
