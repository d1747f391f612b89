-- What `report::put_place` owes.
use native.Mathlib.Omega.{arith}
use mathlib.Core.List.{[], ◌∷◌}
use mir.Syntax.{w64}
use mir.Val.{to_z, of_z}
use mir.ValLaws.{to_z-of_z}
use Rattle.text.specs.Ascii.{bytes, comma}
use Rattle.text.specs.Decimal.{spell_int}
use Rattle.text.proofs.DigitCounts.{length_spell_int}
use Rattle.write.proofs.WrittenLaws.{wrote_pair}
use Rattle.report.proofs.put_place.Goals as goal

pub put_key-requires : goal.put_key-requires
put_key-requires c = omega (arith, c.requires, length_spell_int (to_z w64 (of_z w64 c.args.x)))

pub put_key-requires-2 : goal.put_key-requires-2
put_key-requires-2 c = omega (
  arith,
  c.requires,
  c.put_key.ensures.next,
  c.put_key.ensures.size,
  length_spell_int (to_z w64 (of_z w64 c.args.x)),
  length_spell_int (to_z w64 (of_z w64 c.args.y)),
)

pub returns : goal.returns
unfolding bytes
returns c =
    let first = rw (to_z-of_z w64 c.args.x c.ranges.x) at c.put_key.ensures in
    let second = rw (to_z-of_z w64 c.args.y c.ranges.y) at c.put_key-2.ensures in
    wrote_pair (comma ∷ []) (spell_int c.args.y) first second
