-- What the functions of this crate answer, as the definitions of `Form`, `Kinds` and `OneLine` have it: of the public ones `LineAt`.
use Rattle.std.specs.Prelude.{ℕ, ◌+◌, ◌-◌, ◌<◌, ◌^◌, ◌≡◌, min, List, [], ◌∷◌, ℤ, pos, nat_abs, Result, Ok, Err, IfOk}
use Rattle.std.proofs.Math.Option.{Option, none, some}
use Rattle.job_line.specs.Form.{key, field}
use Rattle.job_line.specs.Kinds.{Row, up_to}
use Rattle.job_line.specs.OneLine.{Reading, fault, got, line}
use Rattle.job_line.specs.declared.Unread.{Unread}
use Rattle.refusal.specs.declared.Refusal.{Refusal}
use Rattle.refusal.specs.declared.Refusal.TheVariants.{Malformed}
use Rattle.deck.specs.declared.AxisCosts.{AxisCosts}
use Rattle.deck.specs.declared.Place.{Place}
use Rattle.deck.specs.declared.Rect.{Rect}
use Rattle.deck.specs.declared.Stop.{Stop}

-- ---- a part of a line: what it is and the text after it, or nothing where it is not there
abbrev pub key_in : Result Unread Refusal → Option (Unit {0} × List ℕ)
key_in (Ok left) = some (tt, left.text.now)
key_in (Err why) = none

abbrev pub field_in : Result (ℤ × Unread) Refusal → Option (ℤ × List ℕ)
field_in (Ok r) = some (r.0, r.1.text.now)
field_in (Err why) = none

-- what is left behind the part is of line n still. Where the part is not there, line n is malformed
abbrev pub InLine : {A : Type 0} → (A → Unread) → ℕ → Result A Refusal → Type 0
InLine left n (Ok r) = (left r).line ≡ n
InLine left n (Err why) = why ≡ Malformed n

-- a key
pub record KeyAt (name : List ℕ) (unread : Unread) (result : Result Unread Refusal) : Type 0 where
  pub is : key_in result ≡ key name unread.text.now
  pub in_line : InLine (λ left. left) unread.line result

-- a number, of at most nine digits, and the byte that ends it
pub record FieldAt (end : ℕ) (unread : Unread) (result : Result (ℤ × Unread) Refusal) : Type 0 where
  pub is : field_in result ≡ field end unread.text.now
  pub nine_digits : IfOk result (λ a. nat_abs a.0 < 10 ^ 9)
  pub in_line : InLine (λ a. a.1) unread.line result

-- ---- the numbers of a line, as the code holds them
abbrev pub area_numbers : Rect → List ℤ
area_numbers a = a.xlo ∷ a.ylo ∷ a.xhi ∷ a.yhi ∷ []

abbrev pub cost_numbers : AxisCosts → List ℤ
cost_numbers c = pos c.a ∷ pos c.b ∷ []

abbrev pub count_numbers : ℕ → List ℤ
count_numbers n = pos n ∷ []

abbrev pub place_numbers : Place → List ℤ
place_numbers p = p.x ∷ p.y ∷ []

abbrev pub stop_numbers : Stop → List ℤ
stop_numbers s = s.at.x ∷ s.at.y ∷ pos s.visits ∷ []

-- ---- lines
-- the number of a line as 64 bits hold it: no job has so many lines that it is another
abbrev pub line_number : ℕ → ℕ
line_number n = min n (2 ^ 64 - 1)

-- what is left begins the next line
pub record NextLine (old new : Unread) : Type 0 where
  pub text_is : new.text.now ≡ old.text.now
  pub line_is : new.line ≡ line_number (old.line + 1)

-- what a reader of lines answers, where what it read has these numbers
abbrev pub reading_of : {A B : Type 0} → (A → B) → Result (A × Unread) Refusal → Reading B
reading_of numbers (Ok r) = got (numbers r.0) r.1.line r.1.text.now
reading_of numbers (Err why) = fault why

-- a reading whose line has its number in 64 bits
abbrev pub in_64_bits : {A : Type 0} → Reading A → Reading A
in_64_bits (fault why) = fault why
in_64_bits (got a n bs) = got a (line_number n) bs

-- what is read where a line with this row is due
pub record LineAt (row : Row) (unread : Unread) (result : Reading (List ℤ)) : Type 0 where
  pub is : result ≡ in_64_bits (line row unread.line unread.text.now)

-- the row of a count, by its key and the most that it may be
abbrev pub count_row : List ℕ → ℕ → Row
count_row name most = record { key = name; ranges = up_to most ∷ [] }
