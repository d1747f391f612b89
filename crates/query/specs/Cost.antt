-- The cost of a place, and before (RULES "Cost").
use Rattle.std.specs.Prelude.{ℕ, ◌*◌, min}
use Rattle.numbers.specs.Lists.{sum_of}
use Rattle.query.specs.Place.{Place}
use Rattle.query.specs.Deck.{Deck}
use Rattle.query.specs.Travel.{travel, near}

-- the cost of a place, where one more post would stand: the paper's AD(l), of its Definition 1, times the total weight
unfoldable pub cost : Deck → Place → ℕ
unfolding sum_of travel near
cost deck p = sum_of (λ stop. stop.visits * min (near deck stop) (travel deck.axis stop.at p)) deck.stops

-- before, with the posts that there are: the paper's AD times the total weight
unfoldable pub before : Deck → ℕ
unfolding sum_of near
before deck = sum_of (λ stop. stop.visits * near deck stop) deck.stops
