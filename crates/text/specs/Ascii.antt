-- Text as bytes: fixed strings, and the bytes that a job's lines are made with (RULES "Job", "Numbers").
use Rattle.std.specs.Prelude.{ℕ, zero, suc, ◌+◌, Bool, ◌&&◌, List, [], ◌∷◌, leb}
use Prim.Native.Char.{code}
use Prim.Native.String.{String, len, char_at}

-- n bytes of an ASCII string from place i on
unfoldable pub bytes_from : String → ℕ → ℕ → List ℕ
bytes_from s i zero = []
bytes_from s i (suc n) = code (char_at s i) ∷ bytes_from s (i + 1) n

-- the bytes of an ASCII string
unfoldable pub bytes : String → List ℕ
unfolding bytes_from
bytes s = bytes_from s 0 (len s)

-- the byte that ends a line; `,`; `-`; `0`
abbrev pub newline : ℕ
newline = 10

abbrev pub comma : ℕ
comma = 44

abbrev pub minus : ℕ
minus = 45

abbrev pub zero_digit : ℕ
zero_digit = 48

-- `0` to `9`
unfoldable pub is_digit : ℕ → Bool
is_digit b = leb 48 b && leb b 57
