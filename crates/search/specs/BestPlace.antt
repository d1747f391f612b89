-- The better of two places (RULES "Live cells"), as the code has them.
use Rattle.std.specs.Prelude.{cond}
use Rattle.query.specs.Order.{better}
use Rattle.priced_place.specs.ObjectProblem.{priced_of}
use Rattle.priced_place.specs.declared.PricedPlace.{PricedPlace}

-- the better of two
unfoldable pub improved : PricedPlace → PricedPlace → PricedPlace
unfolding better
improved best other = cond (better (priced_of other) (priced_of best)) other best
