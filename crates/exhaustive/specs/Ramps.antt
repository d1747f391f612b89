-- The cost of the places of a vertical line (RULES "Cost", "Exhaustive search") as a sum of ramps.
-- A ramp of weight w from a start s on is w × (t − s) at a height t above s, and 0 below. Along the line at v an object with d = |sx − v|
-- pays near for each visit where near ≤ d. Else, with r = near − d, it pays near, less a ramp from sy − r on, plus two from sy on, less
-- one from sy + r on. All of these are scaled coordinates.
use Rattle.std.specs.Prelude.{ℕ, zero, suc, ◌+◌, ◌*◌, ◌-◌, ◌/◌, ◌≤◌, ◌<◌, min, ◌^◌, ◌≡◌, List, map, ℤ, pos, nat_abs, ◌+ℤ◌, length, get_or}
use Rattle.std.specs.Prelude.{set}
use Rattle.numbers.specs.Integer.{dist, times}
use Rattle.query.specs.Range.{cost_limit, coordinate_limit, axis_cost_limit, stops_limit, visits_limit, travel_limit}
use Rattle.columns.specs.Ranges.{scaled_limit}
use Rattle.columns.specs.Objects.{Pricing}
use Rattle.columns.specs.ObjectColumns.{axis_in, object_at}
use Rattle.reach.specs.Held.{columns_of_objects, count_of_objects}
use Rattle.reach.specs.declared.objects.Objects.{Objects}
use Rattle.pricing.specs.ObjectFigures.{cost_of, before_of}
use Rattle.lines.specs.LineRecord.{LinesInOrder, FirstAtLeast, lines_limit}
use Rattle.exhaustive.specs.declared.ramp_sums.Ramps.{Ramps}
use Rattle.exhaustive.specs.declared.ramp_sums.ObjectRamps.{ObjectRamps}
use Rattle.exhaustive.specs.declared.ramp_sums.RunningSums.{RunningSums}

-- ---- limits
-- the height of coordinate 0: no ramp starts as far below it
abbrev pub height_base : ℕ
height_base = 1000000

-- the most of a ramp's start, of a height and of a ramp's weight
abbrev pub start_limit : ℕ
start_limit = scaled_limit + travel_limit

abbrev pub height_limit : ℕ
height_limit = 2 * height_base

abbrev pub weight_limit : ℕ
weight_limit = 2 * visits_limit

-- the most ramps: three of each object
abbrev pub ramps_limit : ℕ
ramps_limit = 3 * stops_limit

-- how many sums of ramps there are: one for each line, and one for the ramps that start above all lines
abbrev pub sums_size : ℕ
sums_size = lines_limit + 1

-- how many slots the table of lines has, one for each coordinate, and the height of the first
abbrev pub table_size : ℕ
table_size = 2 * coordinate_limit + 1

abbrev pub table_base : ℕ
table_base = height_base - coordinate_limit

-- ---- heights and sums
-- how far a coordinate lies above −1,000,000
unfoldable pub height_of : ℤ → ℕ
height_of y = nat_abs (y +ℤ pos height_base)

-- the sum of the first n numbers
unfoldable pub prefix_sum : List ℕ → ℕ → ℕ
prefix_sum xs zero = 0
prefix_sum xs (suc n) = prefix_sum xs n + get_or xs n 0

-- lines in order and in range
pub record LinesInRange (ls : List ℤ) : Type 0 where
  pub in_order : LinesInOrder ls
  pub range : (j : ℕ) → j < length ls → nat_abs (get_or ls j (pos 0)) ≤ coordinate_limit

-- lines multiplied by an axis cost
abbrev pub scaled_lines : ℕ → List ℤ → List ℤ
scaled_lines b ls = map (times b) ls

-- an axis cost to divide by, and what is multiplied with instead
pub record Dividing (by reciprocal : ℕ) : Type 0 where
  pub some : 1 ≤ by
  pub most : by ≤ axis_cost_limit
  pub reciprocal_is : reciprocal ≡ 4294967296 / by + 1

-- slots from `from` on that are before `to` hold j now, and those before `from` what they held
pub record SlotsFilled (xs : List ℕ) (from to j : ℕ) (xs' : List ℕ) : Type 0 where
  pub long : length xs' ≡ length xs
  pub inside : (t : ℕ) → from ≤ t → t < to → get_or xs' t 0 ≡ j
  pub outside : (t : ℕ) → t < from → get_or xs' t 0 ≡ get_or xs t 0

-- r of the lines are lower than a height t, and stand in front
pub record Parted (ls : List ℤ) (t r : ℕ) : Type 0 where
  pub within : r ≤ length ls
  pub before : (k : ℕ) → k < r → height_of (get_or ls k (pos 0)) < t
  pub after : (k : ℕ) → r ≤ k → k < length ls → t ≤ height_of (get_or ls k (pos 0))

-- a table of how many are, by heights from that of the least coordinate to that of the greatest
pub record LineTable (ls : List ℤ) (table : List ℕ) : Type 0 where
  pub long : length table ≡ table_size
  pub parted : (t : ℕ) → t ≤ 2 * coordinate_limit → Parted ls (t + table_base) (get_or table t 0)

-- for each object the first line that is not below it
pub record ObjectLines (objects : Objects) (horizontal : List ℤ) (rows : List ℕ) : Type 0 where
  pub long : length rows ≡ stops_limit
  pub first : (i : ℕ) → i < count_of_objects objects → let columns = columns_of_objects objects in
      FirstAtLeast (scaled_lines (axis_in columns).b horizontal) (object_at columns i).at.y (get_or rows i 0)

-- such lines found, in an array whose entries behind them are as they were
pub record LinesFound (objects : Objects) (horizontal : List ℤ) (old rows : List ℕ) : Type 0 where
  pub lines : ObjectLines objects horizontal rows
  pub kept : (i : ℕ) → count_of_objects objects ≤ i → get_or rows i 0 ≡ get_or old i 0

-- ramps are held by line, at the first line that is not below the start: the sum of their weights, and that of weight × height of the
-- start. Up to line j the weights times the height of that line, and the starts
abbrev pub weights_at : List ℤ → Ramps → ℕ → ℕ
weights_at ls ramps j = prefix_sum ramps.weights (j + 1) * height_of (get_or ls j (pos 0))

abbrev pub starts_at : Ramps → ℕ → ℕ
starts_at ramps j = prefix_sum ramps.starts (j + 1)

-- such sums, each of at most m ramps
pub record RampSums (ramps : Ramps) (m : ℕ) : Type 0 where
  pub weights_long : length ramps.weights ≡ sums_size
  pub starts_long : length ramps.starts ≡ sums_size
  pub weights_most : (k : ℕ) → get_or ramps.weights k 0 ≤ m * weight_limit
  pub starts_most : (k : ℕ) → get_or ramps.starts k 0 ≤ m * (weight_limit * height_limit)

pub record RampInRange (start : ℤ) (w : ℕ) : Type 0 where
  pub start_range : nat_abs start ≤ start_limit
  pub weight_range : w ≤ weight_limit

-- a ramp put at index k
pub record RampPut (k : ℕ) (start : ℤ) (w : ℕ) (old new : Ramps) : Type 0 where
  pub weights_are : new.weights ≡ set old.weights k (get_or old.weights k 0 + w)
  pub starts_are : new.starts ≡ set old.starts k (get_or old.starts k 0 + w * height_of start)

-- one ramp more
pub record RampAdded (ls : List ℤ) (start : ℤ) (w : ℕ) (old new : Ramps) : Type 0 where
  pub sums : (m : ℕ) → RampSums old m → RampSums new (m + 1)
  pub added : (j : ℕ) → j < length ls →
      weights_at ls new j + starts_at old j
      ≡ weights_at ls old j + starts_at new j + w * (height_of (get_or ls j (pos 0)) - height_of start)

-- the ramps that raise the cost and those that lower it, of at most m objects
pub record ObjectSums (ramps : ObjectRamps) (m : ℕ) : Type 0 where
  pub up_sums : RampSums ramps.up m
  pub down_sums : RampSums ramps.down (2 * m)

-- what they come to at line j: raised_at − lowered_at, each with the starts of the other, so that both are sums
abbrev pub raised_at : List ℤ → ObjectRamps → ℕ → ℕ
raised_at ls ramps j = weights_at ls ramps.up j + starts_at ramps.down j

abbrev pub lowered_at : List ℤ → ObjectRamps → ℕ → ℕ
lowered_at ls ramps j = weights_at ls ramps.down j + starts_at ramps.up j

-- one object more, along the line at v
pub record ObjectAdded (ls : List ℤ) (v sx sy : ℤ) (visits near : ℕ) (old new : ObjectRamps) : Type 0 where
  pub sums : (m : ℕ) → ObjectSums old m → ObjectSums new (m + 1)
  pub added : (j : ℕ) → j < length ls →
      visits * min near (dist sx v + dist sy (get_or ls j (pos 0))) + lowered_at ls new j + raised_at ls old j
      ≡ visits * near + raised_at ls new j + lowered_at ls old j

-- the ramps of m objects along the line at v: the cost at each line is what the objects pay now and what is added, less what is taken off
pub record ObjectsAdded (P : Pricing) (m : ℕ) (ls : List ℤ) (v : ℤ) (ramps : ObjectRamps) : Type 0 where
  pub sums : ObjectSums ramps m
  pub cost : (j : ℕ) → j < length ls → let scaled = scaled_lines P.axis.b ls in
      cost_of P (record { x = v; y = get_or ls j (pos 0) }) + lowered_at scaled ramps j ≡ before_of P + raised_at scaled ramps j

-- the sums of the ramps of the first j lines
pub record SumsTo (ramps : ObjectRamps) (j : ℕ) (sums : RunningSums) : Type 0 where
  pub up_is : sums.up ≡ prefix_sum ramps.up.weights j
  pub up_at_is : sums.up_at ≡ prefix_sum ramps.up.starts j
  pub down_is : sums.down ≡ prefix_sum ramps.down.weights j
  pub down_at_is : sums.down_at ≡ prefix_sum ramps.down.starts j

-- what `cost_at` asks: no sum is too large, and not more is taken off than is there
pub record Payable (before : ℕ) (sums : RunningSums) (t : ℕ) : Type 0 where
  pub before_small : before ≤ 2 ^ 60
  pub up_small : sums.up ≤ 2 ^ 40
  pub up_at_small : sums.up_at ≤ 2 ^ 60
  pub down_small : sums.down ≤ 2 ^ 40
  pub down_at_small : sums.down_at ≤ 2 ^ 60
  pub height_small : t ≤ height_limit
  pub enough : sums.down * t + sums.up_at ≤ before + (sums.up * t + sums.down_at)

-- what `sweep` asks: at each line not more is taken off than is there
pub record Sweepable (ls : List ℤ) (ramps : ObjectRamps) (before : ℕ) : Type 0 where
  pub before_most : before ≤ cost_limit
  pub sums : ObjectSums ramps stops_limit
  pub enough : (j : ℕ) → j < length ls → lowered_at ls ramps j ≤ before + raised_at ls ramps j
