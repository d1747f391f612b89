-- What `job::writes_axis` owes.
use mathlib.Core.Path.{◌≡◌}
use mathlib.Core.Bool.{not}
use Prim.Native.Nat.{ℕ}
use borrow.Author.Tests.{eq-eqb, ne_eqb}
use lib.Dec.{eqb}
use Rattle.job.specs.File.{writes_axis}
use Rattle.job.proofs.writes_axis.Goals as goal

by_a : (a b : ℕ) → (a ≡ 1 → ⊥) → not (eqb a 1) ≡ writes_axis (record { a = a; b = b })
unfolding writes_axis
by_a a b other = rw (ne_eqb a 1 other)

by_b : (a b : ℕ) → a ≡ 1 → not (eqb b 1) ≡ writes_axis (record { a = a; b = b })
unfolding writes_axis
by_b a b one = rw (eq-eqb a 1 one)

pub returns-then-costs-ne1 : goal.returns-then-costs-ne1
returns-then-costs-ne1 c = by_a _ _ c.if-costs-ne1.true

pub returns-else-costs-ne1 : goal.returns-else-costs-ne1
returns-else-costs-ne1 c = by_b _ _ c.if-costs-ne1.false
