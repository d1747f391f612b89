-- The tests of a range, `between` and `strictly_between`, as facts of order.
use lib.Dec.{T}
use lib.IntN.{ℤ}
use lib.Signed.{le_z, lt_z, ◌≤ℤ◌, ◌<ℤ◌}
use Rattle.numbers.specs.Integer.{between, strictly_between}
use Rattle.numbers.proofs.Truth.{and_left, and_right, and_intro}

module _ (lo hi v : ℤ) where
  pub between_range : T (between lo hi v) → (lo ≤ℤ v) × (v ≤ℤ hi)
  unfolding between
  between_range t = (record { le = and_left (le_z lo v) (le_z v hi) t }, record { le = and_right (le_z lo v) (le_z v hi) t })

  pub range_between : lo ≤ℤ v → v ≤ℤ hi → T (between lo hi v)
  unfolding between
  range_between h k = and_intro (le_z lo v) (le_z v hi) h.le k.le

  pub strictly_range : T (strictly_between lo hi v) → (lo <ℤ v) × (v <ℤ hi)
  unfolding strictly_between
  strictly_range t = (record { lt = and_left (lt_z lo v) (lt_z v hi) t }, record { lt = and_right (lt_z lo v) (lt_z v hi) t })

  pub range_strictly : lo <ℤ v → v <ℤ hi → T (strictly_between lo hi v)
  unfolding strictly_between
  range_strictly h k = and_intro (lt_z lo v) (lt_z v hi) h.lt k.lt
