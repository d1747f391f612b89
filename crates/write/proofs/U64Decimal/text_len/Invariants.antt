-- The loop of `u64`'s `text_len`.
use mathlib.Core.Path.{◌≡◌}
use Prim.Native.Nat.{◌+◌, ◌≤◌}
use lib.ListN.{length}
use Rattle.text.specs.Decimal.{spell_nat}
use Rattle.write.proofs.U64Decimal.text_len.Given as goal

abbrev pub invariant-loop-rest : goal.invariant-loop-rest
invariant-loop-rest l = (l.rest ≤ l.self) × (l.len + length (spell_nat l.rest) ≡ length (spell_nat l.self) + 1)

abbrev pub decreases-loop-rest : goal.decreases-loop-rest
decreases-loop-rest l = l.rest
