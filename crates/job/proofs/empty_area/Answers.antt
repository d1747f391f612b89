-- What `job::empty_area` owes.
use borrow.Author.Rules.{rules}
use Rattle.job.proofs.ReadLaws.{empty_across, empty_deep}
use Rattle.job.proofs.empty_area.Goals as goal

pub returns-then-area : goal.returns-then-area
returns-then-area c = empty_across (search rules) (search rules) (search rules) (search rules) c.if-area.true

pub returns-else-area : goal.returns-else-area
returns-else-area c = empty_deep (search rules) (search rules) (search rules) (search rules) c.if-area.false
