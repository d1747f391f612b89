-- Natural numbers in signed 32-bit words, as the passes over objects compute with them.
use mathlib.Core.Path.{◌≡◌}
use Prim.Native.Nat.{ℕ, ◌+◌, ◌^◌, ◌≤◌, ◌<◌}
use native.Mathlib.Omega.{arith}
use lib.Dec.{ltb}
use lib.IntN.{ℤ, pos, nat_abs, ◌+ℤ◌}
use lib.Signed.{lt_z}
use mir.Syntax.{w32, w64}
use mir.Val.{to_z, of_z}
use mir.ValLaws.{to_z-of_z, to_z_pos}
use Rattle.numbers.proofs.Words.{word_fits}
use Rattle.columns.specs.Ranges.{scaled_limit}

-- the sum of two natural numbers
pub sum_is : (a b : ℤ) (u v : ℕ) → a ≡ pos u → b ≡ pos v → u < 2 ^ 31 → v < 2 ^ 31 → to_z w32 (of_z w32 a) +ℤ to_z w32 (of_z w32 b) ≡ pos (u + v)
sum_is a b u v e f g h = rw (e, f, to_z_pos w32 u g, to_z_pos w32 v h)

-- the code's test of two, as one of natural numbers
pub test_is : (z : ℤ) (t n : ℕ) → z ≡ pos t → t < 2 ^ 31 → n < 2 ^ 31 → lt_z (to_z w32 (of_z w32 z)) (to_z w32 n) ≡ ltb t n
test_is z t n e g h = rw (e, to_z_pos w32 t g, to_z_pos w32 n h)

-- a coordinate as a word
pub coordinate : (z : ℤ) → nat_abs z ≤ scaled_limit → to_z w32 (of_z w32 z) ≡ z
coordinate z h = to_z-of_z w32 z (word_fits w32 z (omega arith))

-- a coordinate that a 64-bit word is narrowed to
module _ (z : ℤ) (h : nat_abs z ≤ scaled_limit) where
  pub wide : to_z w64 (of_z w64 z) ≡ z
  wide = to_z-of_z w64 z (word_fits w64 z (omega arith))

  pub narrowed : to_z w32 (of_z w32 (to_z w64 (of_z w64 z))) ≡ z
  narrowed = rw (wide, coordinate z h)
