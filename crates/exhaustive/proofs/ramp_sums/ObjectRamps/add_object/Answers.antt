-- What `exhaustive::ramp_sums::ObjectRamps::add_object` owes.
use Prim.Native.Nat.{◌+◌, ◌*◌}
use native.Mathlib.Omega.{arith}
use Rattle.query.specs.Range.{stops_limit}
use Rattle.lines.specs.LineRecord.{FirstAtLeast}
use Rattle.reach.proofs.NarrowLaws.{word}
use Rattle.reach.proofs.RowLaws.{x_word, y_word}
use Rattle.pricing.proofs.PricedWords.{visits_cast, near_cast}
use Rattle.exhaustive.specs.Ramps.{scaled_lines, ramps_limit}
use Rattle.exhaustive.proofs.ScaledLines.{scaled_in_range}
use Rattle.exhaustive.proofs.RampLaws.{put_added}
use Rattle.exhaustive.proofs.ObjectRamps.{sums_more, middle_range, high_range, object_none, object_added}
use Rattle.exhaustive.proofs.AllObjects.{widened, counted, y_wide, visits_is, near_is, object_range}
use Rattle.exhaustive.proofs.ramp_sums.ObjectRamps.add_object.Goals as goal

pub overflow_cast-visits : goal.overflow_cast-visits
overflow_cast-visits c = visits_cast c.args.object.in_range

pub overflow_cast-near : goal.overflow_cast-near
overflow_cast-near c = near_cast c.args.object.in_range

pub returns-then-near-far : goal.returns-then-near-far
returns-then-near-far c =
    let o = c.args.object in
    let l = c.args.lines.now in
    rw (x_word o, y_word o, visits_is o, near_is o) at
    (object_none c.args.v (word o.x) (word o.y) (counted o.visits) (counted o.near) _ c.requires.0 (object_range o) c.abs_diff-far.ensures _
    (scaled_in_range _ l.divisor.dividing.most _ l.plain.in_range) c.args.self.now c.if-near-far.true)

pub put-requires : goal.put-requires
put-requires c =
    let o = c.args.object in
    let l = c.args.lines.now in (
      sums_more stops_limit ramps_limit c.requires.1.up_sums (omega arith),
      middle_range c.args.v (word o.x) (word o.y) (counted o.visits) (counted o.near) _ c.requires.0 (object_range o) c.abs_diff-far.ensures,
      omega (arith, c.requires.2.within, (scaled_in_range _ l.divisor.dividing.most _ l.plain.in_range).few),
    )

pub add-requires-2 : goal.add-requires-2
add-requires-2 c =
    let o = c.args.object in (
      sums_more (2 * stops_limit + 1) ramps_limit (c.add.ensures.sums (2 * stops_limit) c.requires.1.down_sums) (omega arith),
      high_range c.args.v (word o.x) (word o.y) (counted o.visits) (counted o.near) _ c.requires.0 (object_range o) c.abs_diff-far.ensures,
    )

pub returns : goal.returns
returns c =
    let o = c.args.object in
    let l = c.args.lines.now in
    let lines = scaled_in_range _ l.divisor.dividing.most _ l.plain.in_range in
    let range = middle_range c.args.v (word o.x) (word o.y) (counted o.visits) (counted o.near) _ c.requires.0 (object_range o) c.abs_diff-far.ensures in
    let first : FirstAtLeast (scaled_lines l.divisor.by l.plain.at.now) (widened o.y) c.args.line = rw (y_wide o) c.requires.2 in
    let middle = put_added _ _ _ _ _ lines range first (sums_more stops_limit ramps_limit c.requires.1.up_sums (omega arith)) c.put.ensures in
    rw (x_word o, y_word o, visits_is o, near_is o) at
    (object_added c.args.v (word o.x) (word o.y) (counted o.visits) (counted o.near) _ c.requires.0 (object_range o) c.abs_diff-far.ensures _ lines
    c.args.self.now (record { up = c.put.new.self; down = c.add-2.new.self }) _ c.if-near-far.false c.add.ensures middle c.add-2.ensures)
