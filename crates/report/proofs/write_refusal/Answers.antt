-- What `report::write_refusal` owes.
use mathlib.Core.Path.{ap}
use native.Mathlib.Omega.{arith}
use lib.ListN.{length}
use borrow.Author.Rules.{rules}
use Rattle.text.proofs.DigitCounts.{length_spell_nat}
use Rattle.text.specs.Ascii.{bytes}
use Rattle.write.proofs.WrittenLaws.{wrote_front}
use Rattle.report.proofs.TextLaws.{refusal_wrote}
use Rattle.report.proofs.write_refusal.Goals as goal

pub put_key-requires : goal.put_key-requires
put_key-requires c = omega (
  arith,
  c.requires,
  c.new-lines.ensures.place,
  ap length c.new-lines.ensures.content,
  length_spell_nat c.number_of-number.result,
  length_spell_nat c.line_of-line.result,
)

pub put_key-requires-2 : goal.put_key-requires-2
put_key-requires-2 c = omega (
  arith,
  c.requires,
  c.new-lines.ensures.place,
  ap length c.new-lines.ensures.content,
  c.put_key.ensures.next,
  c.put_key.ensures.size,
  length_spell_nat c.number_of-number.result,
  length_spell_nat c.line_of-line.result,
)

pub put-requires : goal.put-requires
put-requires c = omega (
  arith,
  c.requires,
  c.new-lines.ensures.place,
  ap length c.new-lines.ensures.content,
  c.put_key.ensures.next,
  c.put_key.ensures.size,
  c.put_key-2.ensures.next,
  c.put_key-2.ensures.size,
  length_spell_nat c.number_of-number.result,
  length_spell_nat c.line_of-line.result,
)

pub returns : goal.returns
unfolding bytes
returns c =
    let w = refusal_wrote _ _ c.number_of-number.ensures c.line_of-line.ensures c.put_key.ensures c.put_key-2.ensures c.put.ensures in
    wrote_front _ w c.new-lines.ensures.content c.new-lines.ensures.place (search rules) (search rules)
