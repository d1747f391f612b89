-- What `exhaustive::line_numbers::number_lines` owes.
use native.Mathlib.Omega.{arith}
use Rattle.exhaustive.proofs.TableLaws.{numbering_none, numbering_more, slot_is, slot_low, slot_within}
use Rattle.exhaustive.proofs.line_numbers.number_lines.Goals as goal

pub loop-j-init : goal.loop-j-init
loop-j-init c = numbering_none _ c.requires.0 _ c.requires.1

pub overflow_sub-to : goal.overflow_sub-to
overflow_sub-to c = omega (arith, slot_low _ c.requires.0 _ c.loop-j-test.true _ c.height.ensures)

pub fill-requires : goal.fill-requires
fill-requires c =
    let slot = slot_is _ c.requires.0 _ c.loop-j-test.true _ c.height.ensures in (
      c.loop-j.invariant.long,
      omega (arith, slot, c.loop-j.invariant.ahead c.loop-j.j (omega arith) c.loop-j-test.true),
      slot_within _ c.requires.0 _ c.loop-j-test.true _ c.height.ensures,
    )

pub loop-j-preserved : goal.loop-j-preserved
loop-j-preserved c =
    let t = c.loop-j-test.true in
    numbering_more _ c.requires.0 c.loop-j.invariant t _ _ (slot_is _ c.requires.0 _ t _ c.height.ensures) c.fill.ensures
