-- Travel, and near (RULES "Travel", "Near").
use Rattle.std.specs.Prelude.{ℕ, ◌+◌, ◌*◌, List, [], ◌∷◌, map, ltb}
use Rattle.numbers.specs.Integer.{dist}
use Rattle.numbers.specs.Lists.{least_by}
use Rattle.query.specs.Place.{Place}
use Rattle.query.specs.Deck.{AxisCosts, Stop, Deck}

-- the travel between two places: the paper's L1 distance d, with a cost for each axis
unfoldable pub travel : AxisCosts → Place → Place → ℕ
unfolding dist
travel axis p q = axis.a * dist p.x q.x + axis.b * dist p.y q.y

-- the travel from a place to the closest of some posts; 0 where there is none, which no accepted deck has
unfoldable pub closest : AxisCosts → Place → List Place → ℕ
unfolding travel least_by
closest axis p [] = 0
closest axis p (post ∷ posts) = least_by ltb (travel axis p post) (map (travel axis p) posts)

-- near, the paper's dNN(o, S)
unfoldable pub near : Deck → Stop → ℕ
unfolding closest
near deck stop = closest deck.axis stop.at deck.posts
