-- What `text::after_byte` owes.
use Rattle.text.proofs.KeyLaws.{byte_past, byte_found, byte_other}
use Rattle.text.proofs.after_byte.Goals as goal

pub returns-in_err-first : goal.returns-in_err-first
returns-in_err-first c = rw c.from_residual.ensures (byte_past _ _ c.in_err-first.ensures.cases)

pub returns-then-first-byte : goal.returns-then-first-byte
returns-then-first-byte c = byte_found c.in_ok-first.ensures.cases.0 c.if-first-byte.true

pub returns-else-first-byte : goal.returns-else-first-byte
returns-else-first-byte c = byte_other c.in_ok-first.ensures.cases.0 c.if-first-byte.false
