-- The values of the definitions (RULES "Deck") that values of the code hold, and the code's that hold those.
use Rattle.std.specs.Prelude.{pos}
use Rattle.query.specs.Place as Place
use Rattle.query.specs.Deck as Query
use Rattle.deck.specs.declared.Axis as Code
use Rattle.deck.specs.declared.Axis.TheVariants.{X, Y}
use Rattle.deck.specs.declared.AxisCosts.{AxisCosts}
use Rattle.deck.specs.declared.Place.{Place}
use Rattle.deck.specs.declared.Stop.{Stop}
use Rattle.deck.specs.declared.Rect.{Rect}

abbrev pub axis_of : Code.Axis → Place.Axis
axis_of X = Place.x_axis
axis_of Y = Place.y_axis

abbrev pub held_axis : AxisCosts → Query.AxisCosts
held_axis c = record { a = c.a; b = c.b }

abbrev pub axis_record : Query.AxisCosts → AxisCosts
axis_record c = record { a = c.a; b = c.b }

abbrev pub rect_of : Rect → Place.Rect
rect_of r = record { xlo = r.xlo; ylo = r.ylo; xhi = r.xhi; yhi = r.yhi }

abbrev pub rect_record : Place.Rect → Rect
rect_record r = record { xlo = r.xlo; ylo = r.ylo; xhi = r.xhi; yhi = r.yhi }

abbrev pub place_of : Place → Place.Place
place_of p = record { x = p.x; y = p.y }

abbrev pub place_record : Place.Place → Place
place_record p = record { x = p.x; y = p.y }

abbrev pub stop_of : Stop → Query.Stop
stop_of s = record { at = place_of s.at; visits = s.visits }

abbrev pub stop_record : Query.Stop → Stop
stop_record s = record { at = place_record s.at; visits = s.visits }

-- what stands in the arrays of a record behind its posts and its stops: all 0
abbrev pub no_place : Place
no_place = record { x = pos 0; y = pos 0 }

abbrev pub no_stop : Stop
no_stop = record { at = no_place; visits = 0 }
