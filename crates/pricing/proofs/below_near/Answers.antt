-- What `pricing::below_near` owes.
use mir.Syntax.{w32}
use Rattle.numbers.proofs.Words.{natural_fits, result_is}
use Rattle.pricing.proofs.PricedWords.{below_is, below_none, below_small}
use Rattle.pricing.proofs.below_near.Goals as goal

pub overflow_sub-result : goal.overflow_sub-result
overflow_sub-result c =
    let row = c.args.row.in_range in
    let p = c.requires in
    natural_fits w32 _ _ (below_is _ _ row.near_some row.near_range p.0 p.1 c.if-travel-row.true)
    (below_small _ _ row.near_some row.near_range p.0 p.1)

pub returns-then-travel-row : goal.returns-then-travel-row
returns-then-travel-row c =
    let row = c.args.row.in_range in
    let p = c.requires in
    result_is w32 _ _ (below_is _ _ row.near_some row.near_range p.0 p.1 c.if-travel-row.true)
    (record { sfits = below_small _ _ row.near_some row.near_range p.0 p.1 })

pub returns-else-travel-row : goal.returns-else-travel-row
returns-else-travel-row c =
    let row = c.args.row.in_range in
    below_none _ _ row.near_some row.near_range c.requires.0 c.requires.1 c.if-travel-row.false
