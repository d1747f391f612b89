-- One line of a job (RULES "Job", "Refusals"): first by its form, then by its ranges, with lines counted from 1.
use Rattle.std.specs.Prelude.{ℕ, ◌+◌, cond, List, ℤ}
use Rattle.std.proofs.Math.Option.{Option, none, some}
use Rattle.job_line.specs.Kinds.{Row, form_of, in_ranges}
use Rattle.refusal.specs.declared.Refusal.{Refusal}
use Rattle.refusal.specs.declared.Refusal.TheVariants.{Malformed, OutOfRange}

-- a refusal, or what was read, the number of the next line and the text from there on
pub data Reading (A : Type 0) : Type 0 where
  fault : Refusal → Reading A
  got : A → ℕ → List ℕ → Reading A

abbrev pub Reader : Type 0 → Type 0
Reader A = ℕ → List ℕ → Reading A

-- refusal 2 before refusal 3
abbrev pub line_result : Row → ℕ → Option (List ℤ × List ℕ) → Reading (List ℤ)
line_result row n none = fault (Malformed n)
line_result row n (some r) = cond (in_ranges row.ranges r.0) (got r.0 (n + 1) r.1) (fault (OutOfRange n))

-- the numbers of a line that has this row
unfoldable pub line : Row → Reader (List ℤ)
unfolding form_of in_ranges
line row n bs = line_result row n (form_of row bs)
