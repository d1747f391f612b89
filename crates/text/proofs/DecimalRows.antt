-- The rows of specs/DecimalRows.antt, by computation, and the law of every number.
use mathlib.Core.Path.{refl}
use Rattle.text.specs.Ascii.{bytes}
use Rattle.text.specs.Decimal.{spell_int}
use Rattle.text.specs.DecimalRows.{DecimalRows}
use Rattle.text.proofs.DecimalLaws.{decimal_digits}

pub rows : DecimalRows
unfolding spell_int bytes
rows = record {
  zero_alone = refl;
  six_digits = refl;
  seven_digits = refl;
  seven_in_order = refl;
  all_ten = refl;
  all_ten_back = refl;
  most_cost = refl;
  most_below_zero = refl;
  past_53_bits = refl;
  most_word = refl;
  each_number = λ n h. decimal_digits 19 n h;
}
