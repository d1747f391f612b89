-- A loop over the values of a slice, each of which has a line, with the numbers of the lines beside them: `xs.iter().zip(n..)`.
use mathlib.Core.Path.{◌≡◌, sym, ap, ◌∙◌}
use mathlib.Core.Logic.{inl, inr}
use mathlib.Core.List.{List, [], ◌∷◌, map}
use mathlib.Core.Option.{Option, none, some}
use Prim.Native.Nat.{ℕ, ◌+◌, ◌-◌, ◌≤◌}
use native.Mathlib.Omega.{arith}
use lib.ListN.{length}
use Rattle.std.proofs.Common as Std
use Rattle.std.proofs.Common.{Bor, Iter, Some, None}
use Rattle.std.proofs.iter.Yields.{fronts}
use Rattle.std.proofs.lemmas.Iterator.{zips}
use Rattle.std.specs.declared.ops.RangeFrom.{RangeFrom}
use Rattle.std.specs.declared.iter.Zip.{Zip}
use Rattle.std.specs.Iterator.Adapters.{zip_first, zip_second}
use Rattle.std.specs.Option.{MatchOption}
use Rattle.std.specs.Slice.Iter.{iter_rest}
use Rattle.job.specs.Spelling.{JobLine}
use Rattle.refusal.specs.declared.Refusal.{Refusal}
use Rattle.job_check.specs.LineFaults.{line_fault, or_else, first_fault}
use Rattle.job_check.proofs.FirstFault.{fault_none, fault_more}

-- what `n..` does at each call, and the whole chain
abbrev pub upward : RangeFrom ℕ → Std.Option ℕ → RangeFrom ℕ → Type 0
upward s r t = MatchOption r ((18446744073709551615 - s.start ≡ 0) × (t ≡ s)) (λ x. (x ≡ s.start) × (t.start ≡ x + 1))

abbrev pub numbered : {A : Type 0} → Zip (Iter A) (RangeFrom ℕ) → Std.Option (Bor A × ℕ) → Zip (Iter A) (RangeFrom ℕ) → Type 0
numbered = zips fronts upward

module _ {A B : Type 0} (line_of : B → JobLine) (held : A → B) where
  -- the first fault of all lines is that of those that are left
  pub record LinesLeft (whole : Option Refusal) (s : Zip (Iter A) (RangeFrom ℕ)) : Type 0 where
    pub is : whole ≡ first_fault (zip_second s).start (map line_of (map held (iter_rest (zip_first s))))
    pub few : (zip_second s).start + length (iter_rest (zip_first s)) ≤ 2000

  pub none_left : {whole : Option Refusal} {s : Zip (Iter A) (RangeFrom ℕ)} (t : Zip (Iter A) (RangeFrom ℕ)) → LinesLeft whole s →
      numbered s None t → none ≡ whole
  none_left {s} t left (inl e) = no_lines (iter_rest (zip_first s)) e.1.0 ∙ sym left.is
    where
      no_lines : (xs : List A) → length xs ≡ 0 → none ≡ first_fault (zip_second s).start (map line_of (map held xs))
      no_lines [] e = rw fault_none
      no_lines (x ∷ xs) e = absurd (omega (arith, e))
  none_left t left (inr e) = absurd (omega (arith, left.few, e.1.0))

  module _ {whole : Option Refusal} {s : Zip (Iter A) (RangeFrom ℕ)} (x : Bor A) {n : ℕ} (t : Zip (Iter A) (RangeFrom ℕ)) (left : LinesLeft whole s)
      (steps : numbered s (Some (x, n)) t) {found : Option Refusal}
      (e : found ≡ line_fault n (line_of (held x.now))) where
    here : whole ≡ or_else found (first_fault (zip_second t).start (map line_of (map held (iter_rest (zip_first t)))))
    here = left.is ∙ rw (steps.0, fault_more, e, steps.1.1, steps.1.0)

    pub one_fewer : found ≡ none → LinesLeft whole t
    one_fewer fine = record { is = here ∙ rw fine; few = omega (arith, left.few, ap length steps.0, steps.1) }

    pub refused_here : {why : Refusal} → found ≡ some why → some why ≡ whole
    refused_here refused = sym (here ∙ rw refused)
