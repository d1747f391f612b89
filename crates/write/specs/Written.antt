-- Bytes put over the front, or over a part, of a buffer: what a call that writes leaves of the output (RULES "Calls").
use Rattle.std.specs.Prelude.{◌≡◌, ◌≤◌, ℕ, ◌+◌, List, ◌++◌, length, take, drop}
use Rattle.std.specs.Borrow.{GName}
use Rattle.write.specs.declared.Writer.{Writer}

-- an output with a text over its first bytes
unfoldable pub overwritten : List ℕ → List ℕ → List ℕ
overwritten text out = text ++ drop (length text) out

-- what a call that writes a text leaves of the output, and the number of bytes that it returns
pub record Overwrote (out text after : List ℕ) (count : ℕ) : Type 0 where
  pub number : count ≡ length text
  pub content : after ≡ overwritten text out

-- a buffer with other bytes from a place on; those before and after them are kept
unfoldable pub written : List ℕ → ℕ → List ℕ → List ℕ
written out at bs = take at out ++ bs ++ drop (at + length bs) out

-- a writer's slice: its bytes, and its ghost name
abbrev pub slice_bytes : Writer → List ℕ
slice_bytes w = w.out.now

abbrev pub slice_name : Writer → GName
slice_name w = w.out.ghost_name

-- how many bytes are written, which is the place behind them
abbrev pub written_len : Writer → ℕ
written_len w = w.at

-- so many more bytes fit behind what is written
abbrev pub HasRoom : Writer → ℕ → Type 0
HasRoom w count = written_len w + count ≤ length (slice_bytes w)

-- what a call that writes bytes leaves of a writer: the same slice with the bytes at its place, and the place after them
pub record Wrote (before : Writer) (bytes : List ℕ) (after : Writer) : Type 0 where
  pub same_slice : slice_name after ≡ slice_name before
  pub size : length (slice_bytes after) ≡ length (slice_bytes before)
  pub next : written_len after ≡ written_len before + length bytes
  pub text : slice_bytes after ≡ written (slice_bytes before) (written_len before) bytes
