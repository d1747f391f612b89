-- The first fault of lines one after another, and of lines joined end to end.
use mathlib.Core.Path.{◌≡◌, refl, ◌∙◌}
use mathlib.Core.List.{List, [], ◌∷◌, ◌++◌}
use mathlib.Core.Option.{Option, none, some}
use Prim.Native.Nat.{ℕ, ◌+◌}
use native.Mathlib.Omega.{arith}
use lib.ListN.{length}
use Rattle.job.specs.Spelling.{JobLine}
use Rattle.refusal.specs.declared.Refusal.{Refusal}
use Rattle.job_check.specs.LineFaults.{line_fault, or_else, first_fault}

-- ---- lines
pub fault_none : (n : ℕ) → first_fault n [] ≡ none
unfolding first_fault
fault_none n = refl

pub fault_more : (n : ℕ) (l : JobLine) (ls : List JobLine) → first_fault n (l ∷ ls) ≡ or_else (line_fault n l) (first_fault (n + 1) ls)
unfolding first_fault
fault_more n l ls = refl

-- a line, and those behind it
module _ (n : ℕ) (l : JobLine) (ls : List JobLine) {found : Option Refusal} (e : found ≡ line_fault n l) where
  pub line_then : {rest : Option Refusal} → found ≡ none → rest ≡ first_fault (n + 1) ls → rest ≡ first_fault n (l ∷ ls)
  line_then fine g = g ∙ rw (fault_more n l ls, ← e, fine)

  pub line_alone : {why : Refusal} → found ≡ some why → some why ≡ first_fault n (l ∷ ls)
  line_alone refused = rw (fault_more n l ls, ← e, refused)

pub or_both : (a b c : Option Refusal) → or_else (or_else a b) c ≡ or_else a (or_else b c)
or_both none b c = refl
or_both (some why) b c = refl

pub or_none : (a : Option Refusal) → or_else a none ≡ a
or_none none = refl
or_none (some why) = refl

-- those joined end to end
pub fault_joined : (n : ℕ) (ls ms : List JobLine) → first_fault n (ls ++ ms) ≡ or_else (first_fault n ls) (first_fault (n + length ls) ms)
fault_joined n [] ms = let e : n + 0 ≡ n = omega arith in rw (fault_none, e)
fault_joined n (l ∷ ls) ms =
    let e : n + length (l ∷ ls) ≡ n + 1 + length ls = omega arith in
    rw (fault_more n l (ls ++ ms), fault_more n l ls, fault_joined (n + 1) ls ms, e, or_both)
