-- What `items::take_out` owes.
use mathlib.Core.Path.{◌≡◌}
use Prim.Native.Nat.{◌-◌}
use native.Mathlib.Omega.{arith}
use lib.ListN.{length}
use Rattle.items.proofs.Removal.{moved_more, moved_all}
use Rattle.items.proofs.take_out.Goals as goal

pub loop-place-preserved : goal.loop-place-preserved
loop-place-preserved g c = (
  omega arith,
  moved_more c.args.elements.now c.args.index c.index-elements-place.result c.requires c.loop-place.place c.loop-place.invariant.0 c.loop-place-test.true
      c.loop-place.invariant.1 c.index-elements-place.is,
)

pub returns : goal.returns
returns g c =
    let end : c.loop-place.place ≡ length c.args.elements.now - 1 = omega arith in
    moved_all c.args.elements.now c.args.index c.args.zero c.requires (rw end at c.loop-place.invariant.1)
