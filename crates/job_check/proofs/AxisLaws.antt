-- The line of the axis costs, which a file has where they are not 1 and 1: what its absence says, its fault and its place among the lines.
use mathlib.Core.Path.{◌≡◌, refl, ap₂}
use mathlib.Core.Bool.{Bool, true, false, not, cond, ◌&&◌}
use mathlib.Core.List.{List, [], ◌∷◌}
use mathlib.Core.Option.{none}
use Prim.Native.Nat.{ℕ, ◌+◌, ◌≤◌}
use native.Mathlib.Omega.{arith}
use lib.Dec.{T, eqb, eqb→eq}
use lib.ListN.{length}
use Rattle.query.specs.Deck.{AxisCosts, plain}
use Rattle.job_line.specs.Kinds.{axis, row}
use Rattle.job.specs.Format.{Job, missing_axis, axis_numbers}
use Rattle.job.specs.Spelling.{JobLine, axis_line, spell, Spells, with_line, without_line}
use Rattle.job.specs.File.{writes_axis, saved_spelling}
use Rattle.job_check.specs.LineFaults.{numbers_fault, first_fault}
use Rattle.job_check.proofs.FirstFault.{fault_none, fault_more, or_none}

-- costs without a line are 1 and 1
pub left_out : (c : AxisCosts) → T (not (writes_axis c)) → c ≡ plain
unfolding writes_axis
left_out c = go (eqb c.a 1) (eqb c.b 1) (eqb→eq c.a 1) (eqb→eq c.b 1)
  where
    go : (s t : Bool) → (T s → c.a ≡ 1) → (T t → c.b ≡ 1) → T (not (not (s && t))) → c ≡ plain
    go true true p q u = ap₂ (λ (a b : ℕ). record { a = a; b = b }) (p tt) (q tt)
    go true false p q u = absurd u
    go false t p q u = absurd u

-- which is what a missing line means, so the spelling that is written is one of the job's
pub saved_spells : (job : Job) → Spells missing_axis (saved_spelling job) job
saved_spells job = go (writes_axis job.deck.axis) (left_out job.deck.axis)
  where
    go : (carried : Bool) → (T (not carried) → job.deck.axis ≡ missing_axis) → Spells missing_axis (spell carried job) job
    go true h = with_line refl
    go false h = without_line refl (h tt)

abbrev pub axis_lines : AxisCosts → List JobLine
axis_lines c = cond (writes_axis c) (axis_line c ∷ []) []

plain_fine : none ≡ numbers_fault (row axis).ranges 2 (axis_numbers plain)
unfolding numbers_fault
plain_fine = refl

-- the numbers have the same fault where they are not written: none
pub axis_fault : (c : AxisCosts) → first_fault 2 (axis_lines c) ≡ numbers_fault (row axis).ranges 2 (axis_numbers c)
axis_fault c = go (writes_axis c) (left_out c)
  where
    go : (carried : Bool) → (T (not carried) → c ≡ plain) →
        first_fault 2 (cond carried (axis_line c ∷ []) []) ≡ numbers_fault (row axis).ranges 2 (axis_numbers c)
    go true h = rw (fault_more, fault_none, or_none)
    go false h = rw (fault_none, h tt) plain_fine

-- the line of the posts' count is the one behind
pub axis_end : (c : AxisCosts) → 2 + length (axis_lines c) ≡ cond (writes_axis c) 3 2
axis_end c = go (writes_axis c)
  where
    go : (carried : Bool) → 2 + length (cond carried (axis_line c ∷ []) []) ≡ cond carried 3 2
    go true = refl
    go false = refl

pub third_line : (carried : Bool) → cond carried 3 2 ≤ 3
third_line true = omega arith
third_line false = omega arith
