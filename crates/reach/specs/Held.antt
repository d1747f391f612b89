-- What the code holds (RULES "Travel"): objects in columns, one of them, and the scaled edges of a rectangle.
use Rattle.std.specs.Prelude.{ℕ, ◌≡◌, List, ℤ, nat_abs}
use Rattle.query.specs.Place.{Rect}
use Rattle.query.specs.Deck.{AxisCosts}
use Rattle.deck.specs.declared.AxisCosts as Code
use Rattle.deck.specs.Values.{held_axis}
use Rattle.deck.specs.Ranges.{CostsInRange}
use Rattle.columns.specs.Objects.{scaled_rect, Object, Pricing}
use Rattle.columns.specs.ObjectColumns.{pricing_in}
use Rattle.reach.specs.Columns.{EdgesInRange}
use Rattle.reach.specs.declared.objects.Objects.{Objects}
use Rattle.reach.specs.declared.objects.Row.{Row}
use Rattle.reach.specs.declared.rectangle.Edges.{Edges}

-- the object of a row
abbrev pub object_of_row : Row → Object
object_of_row row = record { at = record { x = row.x; y = row.y }; visits = nat_abs row.visits; near = nat_abs row.near }

-- the columns of objects, with the axis costs behind them, and how many objects there are
abbrev pub columns_of_objects : Objects → List ℤ
columns_of_objects objects = objects.columns

abbrev pub count_of_objects : Objects → ℕ
count_of_objects objects = objects.count

-- what pricing needs, of objects in columns
abbrev pub pricing_of_objects : Objects → Pricing
pricing_of_objects objects = pricing_in (columns_of_objects objects) (count_of_objects objects)

-- axis costs as the code holds them
pub record AxisOf (axis : AxisCosts) (held : Code.AxisCosts) : Type 0 where
  pub is : held_axis held ≡ axis
  pub range : CostsInRange (held_axis held)

-- scaled edges as a rectangle
abbrev pub edges_rect : Edges → Rect
edges_rect edges = record { xlo = edges.xlo; ylo = edges.ylo; xhi = edges.xhi; yhi = edges.yhi }

-- the edges of a rectangle, scaled, in the range that the passes need
pub record EdgesOf (axis : AxisCosts) (rectangle : Rect) (edges : Edges) : Type 0 where
  pub are : edges_rect edges ≡ scaled_rect axis rectangle
  pub range : EdgesInRange edges.xlo edges.ylo edges.xhi edges.yhi
