-- The near of a stop with one post more, and with one less (RULES "Change 6").
use Rattle.std.specs.Prelude.{ℕ, min, cond, List, eqb}
use Rattle.query.specs.Place.{Place}
use Rattle.query.specs.Deck.{AxisCosts, plain}
use Rattle.query.specs.Travel.{travel, closest}
use Rattle.columns.specs.Objects.{scaled_place}

-- of a stop at q with one more post
unfoldable pub near_with : AxisCosts → Place → Place → ℕ → ℕ
unfolding travel
near_with axis post q near = min near (travel axis q post)

-- and with one post less, where these are left: found anew only where it was the travel to the post that goes
unfoldable pub near_without : AxisCosts → Place → List Place → Place → ℕ → ℕ
unfolding travel closest
near_without axis post left q near = cond (eqb near (travel axis q post)) (closest axis q left) near

-- the same, found by posts that are scaled
unfoldable pub near_but : AxisCosts → Place → List Place → Place → ℕ → ℕ
unfolding travel closest
near_but axis post left q near = cond (eqb near (travel axis q post)) (closest plain (scaled_place axis q) left) near
