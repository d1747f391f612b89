-- What `cuts::Side::middle` owes.
use native.Mathlib.Omega.{arith}
use mathlib.Core.Path.{◌≡◌}
use Prim.Native.Nat.{◌+◌, ◌*◌, ◌≤◌}
use lib.IntN.{ℤ, pos, nat_abs, ◌+ℤ◌}
use lib.Signed.{shr_z}
use mir.Syntax.{w64}
use Rattle.numbers.specs.Integer.{half_up}
use Rattle.numbers.proofs.Integer.{abs_range, half_nat, sum_abs, half_shift}
use Rattle.numbers.proofs.Words.{word_fits}
use Rattle.numbers.proofs.WordTests.{back, back_is}
use Rattle.query.specs.Range.{coordinate_limit}
use Rattle.cuts.specs.CutRecord.{Edges}
use Rattle.cuts.proofs.CutRecordLaws.{back_low, back_high}
use Rattle.cuts.proofs.Side.middle.Goals as goal

half_sum : (lo hi : ℤ) → Edges lo hi → back (shr_z (back (back (back lo +ℤ back hi) +ℤ pos 1)) 2) ≡ half_up (lo +ℤ hi)
half_sum lo hi e =
    let small : nat_abs (lo +ℤ hi) ≤ 2 * coordinate_limit = sum_abs lo hi coordinate_limit coordinate_limit e.lo_range e.hi_range in
    let more : nat_abs ((lo +ℤ hi) +ℤ pos 1) ≤ 2 * coordinate_limit + 1 = sum_abs (lo +ℤ hi) (pos 1) (2 * coordinate_limit) 1 small (omega arith) in
    let h = half_up (lo +ℤ hi) in
    let h-range : nat_abs h ≤ 2 * coordinate_limit =
    (abs_range h (2 * coordinate_limit)).1 (omega (arith, half_nat (lo +ℤ hi), (abs_range (lo +ℤ hi) (2 * coordinate_limit)).0 small)) in
    rw (
      back_low e,
      back_high e,
      back_is (word_fits w64 (lo +ℤ hi) (omega (arith, small))),
      back_is (word_fits w64 ((lo +ℤ hi) +ℤ pos 1) (omega (arith, more))),
      half_shift (lo +ℤ hi),
    ) (back_is (word_fits w64 h (omega (arith, h-range))))

pub returns : goal.returns
returns c = half_sum c.args.self.now.lo c.args.self.now.hi c.args.self.now.edges
