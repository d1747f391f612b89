-- What `report::put_costs` owes.
use native.Mathlib.Omega.{arith}
use mir.Syntax.{w64}
use mir.Val.{to_z, of_z}
use mir.ValLaws.{to_z-of_z}
use Rattle.text.specs.Ascii.{bytes}
use Rattle.text.specs.Decimal.{spell_nat, spell_int}
use Rattle.text.proofs.DigitCounts.{length_spell_nat, length_spell_int}
use Rattle.write.proofs.WrittenLaws.{wrote_pair}
use Rattle.report.proofs.put_costs.Goals as goal

pub put_key-requires : goal.put_key-requires
put_key-requires c = omega (arith, c.requires, length_spell_nat c.args.high, length_spell_nat c.args.before)

pub put_key-requires-2 : goal.put_key-requires-2
put_key-requires-2 c = omega (
  arith,
  c.requires,
  c.put_key.ensures.next,
  c.put_key.ensures.size,
  length_spell_nat c.args.high,
  length_spell_int (to_z w64 (of_z w64 c.args.low)),
  length_spell_nat c.args.before,
)

pub put_key-requires-3 : goal.put_key-requires-3
put_key-requires-3 c = omega (
  arith,
  c.requires,
  c.put_key.ensures.next,
  c.put_key.ensures.size,
  c.put_key-2.ensures.next,
  c.put_key-2.ensures.size,
  length_spell_nat c.args.high,
  length_spell_int (to_z w64 (of_z w64 c.args.low)),
  length_spell_nat c.args.before,
)

pub returns : goal.returns
unfolding bytes
returns c =
    let low = rw (to_z-of_z w64 c.args.low c.ranges.low) at c.put_key-2.ensures in
    let both = wrote_pair (bytes "\nlow=") (spell_int c.args.low) c.put_key.ensures low in
    wrote_pair (bytes "\nbefore=") (spell_nat c.args.before) both c.put_key-3.ensures
