-- What `pricing::saved` owes.
use mathlib.Core.Path.{refl}
use native.Mathlib.Nat.{mul-le-mul}
use Rattle.reach.proofs.NarrowLaws.{number_word, visits_word}
use Rattle.pricing.proofs.saved.Goals as goal

pub returns : goal.returns
returns c =
    let row = c.args.row.in_range in
    rw (visits_word row, number_word c.args.spared c.requires.1) (record { is = refl; within = mul-le-mul row.visits_range c.requires.1 })
