-- The ranges of a deck's values (RULES "Deck", "Change 2"), and the limits that they put on its figures.
use Rattle.std.specs.Prelude.{ℕ, ◌≤◌, pos, nat_abs, ◌≤ℤ◌, length}
use mathlib.Core.List.{Memᴰ}
use Rattle.query.specs.Place.{Place, Rect, corner}
use Rattle.query.specs.Deck.{Stop, Deck}
use Rattle.query.specs.Travel.{travel, near}
use Rattle.query.specs.Cost.{cost, before}
use Rattle.query.specs.Bound.{bound}
use Rattle.query.specs.CornerBound.{span, load, corner_bound}
use Rattle.query.specs.Problem.{problem}
use Rattle.query.specs.Order.{Cell}
use Rattle.query.specs.Search.{run}
use Rattle.query.specs.Figures.{Figures, figures}

-- ---- the ranges
-- tenths of a millimetre, to either side of the centre
abbrev pub coordinate_limit : ℕ
coordinate_limit = 20000

abbrev pub posts_limit : ℕ
posts_limit = 64

abbrev pub stops_limit : ℕ
stops_limit = 512

abbrev pub visits_limit : ℕ
visits_limit = 65535

abbrev pub rounds_limit : ℕ
rounds_limit = 1000

abbrev pub axis_cost_limit : ℕ
axis_cost_limit = 9

pub record PlaceInRange (p : Place) : Type 0 where
  pub x_range : nat_abs p.x ≤ coordinate_limit
  pub y_range : nat_abs p.y ≤ coordinate_limit

pub record RectInRange (r : Rect) : Type 0 where
  pub low_corner_law : PlaceInRange (corner r)
  pub high_corner_law : PlaceInRange (record { x = r.xhi; y = r.yhi })

pub record StopInRange (stop : Stop) : Type 0 where
  pub place : PlaceInRange stop.at
  pub some_visits : 1 ≤ stop.visits
  pub most_visits : stop.visits ≤ visits_limit

-- a deck whose values are all in range
pub record InRange (deck : Deck) : Type 0 where
  pub axis_some : (1 ≤ deck.axis.a) × (1 ≤ deck.axis.b)
  pub axis_most : (deck.axis.a ≤ axis_cost_limit) × (deck.axis.b ≤ axis_cost_limit)
  pub area : RectInRange deck.area
  pub posts : (p : Place) → Memᴰ p deck.posts → PlaceInRange p
  pub some_posts : 1 ≤ length deck.posts
  pub most_posts : length deck.posts ≤ posts_limit
  pub stops : (stop : Stop) → Memᴰ stop deck.stops → StopInRange stop
  pub some_stops : 1 ≤ length deck.stops
  pub most_stops : length deck.stops ≤ stops_limit

-- ---- the limits on figures
-- the most travel between two places in range: axis_cost_limit × 2 × coordinate_limit along each axis
abbrev pub travel_limit : ℕ
travel_limit = 720000

-- the most visits of a deck: stops_limit × visits_limit
abbrev pub load_limit : ℕ
load_limit = 33553920

-- the most that a place can cost: load_limit × travel_limit
abbrev pub cost_limit : ℕ
cost_limit = 24158822400000

-- no figure of a deck in range passes these limits, which are far below 2 ^ 63
pub record FigureLimits (deck : Deck) : Type 0 where
  pub travel_limit_lem : (p q : Place) → PlaceInRange p → PlaceInRange q → travel deck.axis p q ≤ travel_limit
  pub near_limit : (stop : Stop) → Memᴰ stop deck.stops → near deck stop ≤ travel_limit
  pub cost_limit_lem : (p : Place) → cost deck p ≤ cost_limit
  pub before_limit : before deck ≤ cost_limit
  pub bound_limit : (r : Rect) → bound deck r ≤ cost_limit
  pub load_limit_lem : (r : Rect) → load deck r ≤ load_limit
  pub span_limit : (r : Rect) → RectInRange r → span deck.axis r ≤ travel_limit
  pub corner_bound_limit : (r : Rect) → RectInRange r → nat_abs (corner_bound deck r) ≤ cost_limit

-- nor does a figure of a report, where so many rounds are allowed
pub record FiguresInRange (rounds : ℕ) (f : Figures) : Type 0 where
  pub place : PlaceInRange f.at
  pub high_limit : f.high ≤ cost_limit
  pub low_some : pos 0 ≤ℤ f.low
  pub low_limit : f.low ≤ℤ pos cost_limit
  pub before_limit : f.before ≤ cost_limit
  pub rounds_limit_lem : f.rounds ≤ rounds

-- nor does a figure or a cell after n rounds
pub record RunInRange (deck : Deck) (n : ℕ) : Type 0 where
  pub figures_range : FiguresInRange n (figures deck n)
  pub cells_range : (c : Cell) → Memᴰ c (run (problem deck) n).live → RectInRange c.rect
  pub bounds_some : (c : Cell) → Memᴰ c (run (problem deck) n).live → pos 0 ≤ℤ c.bound
  pub bounds_limit : (c : Cell) → Memᴰ c (run (problem deck) n).live → c.bound ≤ℤ pos cost_limit
