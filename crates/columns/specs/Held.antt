-- What a `ScaledPosts` of the code holds: posts at scaled places.
use Rattle.std.specs.Prelude.{List, take}
use Rattle.query.specs.Place.{Place}
use Rattle.columns.specs.Columns.{places}
use Rattle.deck.specs.declared.AxisCosts.{AxisCosts}
use Rattle.columns.specs.declared.ScaledPosts.{ScaledPosts}

-- the axis costs that they are scaled by, and their places
abbrev pub axis_of_posts : ScaledPosts → AxisCosts
axis_of_posts p = p.axis

abbrev pub places_of_posts : ScaledPosts → List Place
places_of_posts p = take p.count (places p.x p.y)
