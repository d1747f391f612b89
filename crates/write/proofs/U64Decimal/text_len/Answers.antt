-- What `u64`'s `text_len` owes.
use native.Mathlib.Omega.{arith}
use Rattle.text.proofs.DigitCounts.{length_spell_nat, length_one, length_more, length_beyond}
use Rattle.write.proofs.DigitLaws.{length_few}
use Rattle.write.proofs.U64Decimal.text_len.Goals as goal

pub returns-then-n-lt100000 : goal.returns-then-n-lt100000
returns-then-n-lt100000 c =
    let n = c.args.self in
    let few = length_few n c.if-n-lt100000.true in record {
      value = omega (
        arith,
        few,
        c.at_least.ensures.value,
        c.at_least-then-n-lt100000.ensures.value,
        c.at_least-then-n-lt100000-2.ensures.value,
        c.at_least-then-n-lt100000-3.ensures.value,
      );
      upper_bound = omega arith;
    }

pub loop-rest-init : goal.loop-rest-init
loop-rest-init c = (omega arith, omega (arith, length_beyond c.args.self c.if-n-lt100000.false (omega arith)))

pub overflow_add-len : goal.overflow_add-len
overflow_add-len c = omega (arith, length_spell_nat c.args.self)

pub loop-rest-preserved : goal.loop-rest-preserved
loop-rest-preserved c = (omega arith, omega (arith, length_more c.loop-rest.rest (omega arith) (omega arith)))

pub returns : goal.returns
returns c =
    let last = length_one c.loop-rest.rest (omega arith) in
    record { value = omega (arith, last); upper_bound = omega (arith, last, length_spell_nat c.args.self) }
