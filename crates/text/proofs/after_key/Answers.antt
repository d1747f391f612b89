-- What `text::after_key` owes.
use Rattle.text.proofs.KeyLaws.{stripped}
use Rattle.text.proofs.after_key.Goals as goal

pub returns : goal.returns
returns c = stripped _ _ _ c.strip_prefix.ensures.cases
