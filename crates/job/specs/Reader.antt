-- Reading line by line (RULES "Job"), one reader of a line after another.
use Rattle.std.specs.Prelude.{ℕ, zero, suc, cond, List, [], ◌∷◌, ◌++◌, ℤ}
use Rattle.text.specs.TextReading.{starts_with}
use Rattle.job_line.specs.Kinds.{Row}
use Rattle.job_line.specs.OneLine.{Reading, fault, got, Reader, line}
use Rattle.refusal.specs.declared.Refusal.TheVariants.{Malformed}

abbrev pub and_then : {A B : Type 0} → Reading A → (A → Reader B) → Reading B
and_then (fault why) next = fault why
and_then (got a n bs) next = next a n bs

infixl 20 ◌>>=◌
unfoldable pub ◌>>=◌ : {A B : Type 0} → Reader A → (A → Reader B) → Reader B
(first >>= next) n bs = and_then (first n bs) next

infixl 20 ◌>>◌
unfoldable pub ◌>>◌ : {A B : Type 0} → Reader A → Reader B → Reader B
unfolding ◌>>=◌
first >> next = first >>= (λ a. next)

unfoldable pub return : {A : Type 0} → A → Reader A
return a n bs = got a n bs

-- so many lines of one kind, behind those read before
unfoldable pub repeated : {A : Type 0} → ℕ → Reader A → List A → Reader (List A)
unfolding return ◌>>=◌
repeated zero one read = return read
repeated (suc n) one read = do
  a ← one
  repeated n one (read ++ (a ∷ []))

-- a line that may be missing: it is there where the text goes on with its key. Where it is not, these numbers are taken for its own
unfoldable pub optional : Row → List ℤ → Reader (List ℤ)
unfolding starts_with line
optional row missing n bs = cond (starts_with row.key bs) (line row n bs) (got missing n bs)

-- the end of the text
unfoldable pub end : Reader (Unit {0})
end n [] = got tt n []
end n (b ∷ bs) = fault (Malformed n)
