-- What `corner_bound::corner_bound` owes.
use mathlib.Core.Path.{◌≡◌}
use Prim.Native.Nat.{◌*◌}
use native.Mathlib.Nat.{mul-le-mul}
use native.Mathlib.Omega.{arith}
use lib.IntN.{pos, ◌-ℤ◌}
use Rattle.numbers.specs.Integer.{half_up}
use Rattle.deck.specs.Values.{rect_of}
use Rattle.columns.proofs.WordLaws.{wide}
use Rattle.reach.specs.Held.{pricing_of_objects}
use Rattle.corner_bound.specs.ObjectCornerBound.{corner_bound_of}
use Rattle.corner_bound.proofs.CornerLaws.{half_words, corner_bound_of_is, corner_sum_of_is}
use Rattle.corner_bound.proofs.corner_bound.Goals as goal

pub returns : goal.returns
returns c =
    let low = c.requires.range.low_corner_law in
    let high = c.requires.range.high_corner_law in
    let r = c.args.rectangle in
    let same : half_up (pos c.max-dearer.result -ℤ pos (c.span-span.result * c.load.result))
    ≡ corner_bound_of (pricing_of_objects c.args.objects.now) (rect_of r) =
    rw (
      c.max-dearer.ensures,
      c.diagonal-rising.ensures.is,
      c.diagonal-falling.ensures.is,
      c.low.ensures,
      c.high.ensures,
      c.span-span.ensures.is,
      c.load.ensures.is,
      c.axis.ensures.is,
      wide r.xlo (omega (arith, low.x_range)),
      wide r.ylo (omega (arith, low.y_range)),
      wide r.xhi (omega (arith, high.x_range)),
      wide r.yhi (omega (arith, high.y_range)),
      corner_bound_of_is,
      corner_sum_of_is,
    ) in
    half_words c.max-dearer.result (c.span-span.result * c.load.result) _
    (omega (arith, c.max-dearer.ensures, c.diagonal-rising.ensures.within, c.diagonal-falling.ensures.within))
    (omega (arith, mul-le-mul c.span-span.ensures.within c.load.ensures.within))
    c.half_up.ensures same
