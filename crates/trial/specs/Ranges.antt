-- What is asked of a place or rectangle that is priced (RULES "Deck").
use Rattle.std.specs.Prelude.{Bool, ◌&&◌}
use Rattle.std.specs.Int.Signed.{le_z}
use Rattle.query.specs.Place.{Place, Rect, corner}
use Rattle.job_line.specs.Kinds.{coordinates, in_range}

-- a place whose coordinates are in range
unfoldable pub place_in_range : Place → Bool
unfolding in_range
place_in_range p = in_range coordinates p.x && in_range coordinates p.y

-- a rectangle whose coordinates are in range and whose edges are in order
unfoldable pub rect_allowed : Rect → Bool
unfolding place_in_range
rect_allowed r =
    place_in_range (corner r) && (place_in_range (record { x = r.xhi; y = r.yhi }) && (le_z r.xlo r.xhi && le_z r.ylo r.yhi))
