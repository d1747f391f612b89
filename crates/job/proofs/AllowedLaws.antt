-- A job whose deck is in range is allowed: the other way round than `allowed_in_range` (Meaning.antt).
use mathlib.Core.Bool.{true}
use mathlib.Core.List.Memᴰ
use mathlib.Core.List.{map}
use Prim.Native.Nat.{ℕ, ◌≤◌}
use native.Mathlib.Omega.{arith}
use lib.Dec.{T}
use lib.IntN.{ℤ, pos, nat_abs}
use lib.ListN.{length}
use Rattle.numbers.proofs.Integer.{order}
use Rattle.numbers.proofs.Members.{each_cons, each_append, each_map}
use Rattle.numbers.proofs.Ranges.{range_between}
use Rattle.query.specs.Place.{Place, Rect, NonEmpty}
use Rattle.query.specs.Deck.{AxisCosts, Stop}
use Rattle.query.specs.Range.{coordinate_limit, posts_limit, stops_limit, visits_limit, rounds_limit, axis_cost_limit}
use Rattle.query.specs.Range.{PlaceInRange, RectInRange, StopInRange, InRange}
use Rattle.job_line.specs.Kinds.{area, axis, post, stop, coordinates, row, in_range}
use Rattle.job.specs.Format.{Job, axis_numbers}
use Rattle.job.specs.Spelling.{area_line, axis_line, post_line, stop_line, Writable, Allowed}
use Rattle.job.proofs.JobLaws.{InRanges}
use Rattle.job.proofs.RangeLaws.{in_each, coordinate_range, count_range}

-- ---- a number in its range
coordinate_in : (v : ℤ) → nat_abs v ≤ coordinate_limit → T (in_range coordinates v)
coordinate_in v h = (coordinate_range v).1 h

natural_in_lem : (least most n : ℕ) → least ≤ n → n ≤ most → T (in_range (record { low = pos least; high = pos most }) (pos n))
unfolding in_range
natural_in_lem least most n g h = range_between (pos least) (pos most) (pos n) (omega (arith, order)) (omega (arith, order))

-- ---- a line of each kind
area_in : (r : Rect) → RectInRange r → InRanges (area_line r)
unfolding InRanges
area_in r h = in_each (row area).ranges (area_line r).numbers (
  coordinate_in r.xlo h.low_corner_law.x_range,
  (
    coordinate_in r.ylo h.low_corner_law.y_range,
    (
      coordinate_in r.xhi h.high_corner_law.x_range,
      (coordinate_in r.yhi h.high_corner_law.y_range, tt),
    ),
  ),
)

axis_in_lem : (c : AxisCosts) → (1 ≤ c.a) × (1 ≤ c.b) → (c.a ≤ axis_cost_limit) × (c.b ≤ axis_cost_limit) → InRanges (axis_line c)
unfolding InRanges
axis_in_lem c some most =
    in_each (row axis).ranges (axis_numbers c) (natural_in_lem 1 axis_cost_limit c.a some.0 most.0, (natural_in_lem 1 axis_cost_limit c.b some.1 most.1, tt))

pub post_in : (p : Place) → PlaceInRange p → InRanges (post_line p)
unfolding InRanges
post_in p h = in_each (row post).ranges (post_line p).numbers (coordinate_in p.x h.x_range, (coordinate_in p.y h.y_range, tt))

pub stop_in_lem : (s : Stop) → StopInRange s → InRanges (stop_line s)
unfolding InRanges
stop_in_lem s h = in_each (row stop).ranges (stop_line s).numbers (
  coordinate_in s.at.x h.place.x_range,
  (coordinate_in s.at.y h.place.y_range, (natural_in_lem 1 visits_limit s.visits h.some_visits h.most_visits, tt)),
)

-- ---- all lines
in_range_writable : (job : Job) → InRange job.deck → job.rounds ≤ rounds_limit → Writable true job
unfolding InRanges
in_range_writable job range few = record {
  in_ranges_law =
      each_cons InRanges (area_in job.deck.area range.area) (each_cons InRanges (axis_in_lem job.deck.axis range.axis_some range.axis_most)
      (each_cons InRanges ((count_range posts_limit (length job.deck.posts)).1 range.most_posts)
      (each_append InRanges (map post_line job.deck.posts) (each_map InRanges post_line job.deck.posts (λ p m. post_in p (range.posts p m)))
      (each_cons InRanges ((count_range stops_limit (length job.deck.stops)).1 range.most_stops)
      (each_append InRanges (map stop_line job.deck.stops) (each_map InRanges stop_line job.deck.stops (λ s m. stop_in_lem s (range.stops s m)))
      (each_cons InRanges ((count_range rounds_limit job.rounds).1 few) (λ l m. absurd (Memᴰ.not-nil m))))))));
}

pub in_range_allowed : (job : Job) → InRange job.deck → NonEmpty job.deck.area → job.rounds ≤ rounds_limit → Allowed job
in_range_allowed job range full few = record {
  writable = in_range_writable job range few;
  area_full = full;
  some_posts = range.some_posts;
  some_stops = range.some_stops;
}
