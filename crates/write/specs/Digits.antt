-- How the code counts the digits of a number: one more at each power of ten that it reaches.
use Rattle.std.specs.Prelude.{ℕ, cond, ltb}

-- 1 where n is `least` or more, else 0
unfoldable pub at_least : ℕ → ℕ → ℕ
at_least n least = cond (ltb n least) 0 1
