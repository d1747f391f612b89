-- Rows of the definitions of this crate, each chosen so that a rule told wrongly gives another value; `proofs/NumberRows.antt` proves them.
use Rattle.std.specs.Prelude.{ℕ, ◌≡◌, Bool, true, false, [], ◌∷◌, ltb, pos, negsuc}
use Rattle.numbers.specs.Integer.{between, strictly_between, clamp}
use Rattle.numbers.specs.Lists.{least_by, insert_by, insert_once}

-- a number with a label by which equal ones are told apart
pub record Labelled : Type 0 where
  pub number : ℕ
  pub label : ℕ

abbrev pub labelled : ℕ → ℕ → Labelled
labelled number label = record { number = number; label = label }

abbrev pub smaller : Labelled → Labelled → Bool
smaller p q = ltb p.number q.number

pub record NumberRows : Type 0 where
  pub between_low_edge : between (negsuc 1) (pos 8) (negsuc 1) ≡ true
  pub between_high_edge : between (negsuc 1) (pos 8) (pos 8) ≡ true
  pub strictly_low_edge : strictly_between (negsuc 1) (pos 8) (negsuc 1) ≡ false
  pub strictly_high_edge : strictly_between (negsuc 1) (pos 8) (pos 8) ≡ false
  pub clamp_below : clamp (negsuc 1) (pos 8) (negsuc 4) ≡ negsuc 1
  pub clamp_inside : clamp (negsuc 1) (pos 8) (pos 5) ≡ pos 5
  pub clamp_above : clamp (negsuc 1) (pos 8) (pos 9) ≡ pos 8
  pub least_is_first : least_by smaller (labelled 3 1) (labelled 2 2 ∷ labelled 2 3 ∷ []) ≡ labelled 2 2
  pub insert_behind_equals : insert_by smaller (labelled 2 3) (labelled 2 1 ∷ labelled 2 2 ∷ labelled 3 4 ∷ [])
      ≡ labelled 2 1 ∷ labelled 2 2 ∷ labelled 2 3 ∷ labelled 3 4 ∷ []
  pub insert_once_law : insert_once (pos 2) (negsuc 0 ∷ pos 2 ∷ pos 5 ∷ []) ≡ negsuc 0 ∷ pos 2 ∷ pos 5 ∷ []
  pub insert_between : insert_once (pos 0) (negsuc 0 ∷ pos 2 ∷ pos 5 ∷ []) ≡ negsuc 0 ∷ pos 0 ∷ pos 2 ∷ pos 5 ∷ []
