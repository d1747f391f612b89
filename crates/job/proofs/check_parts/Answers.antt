-- What `job::check_parts` owes.
use Rattle.job.proofs.ReadLaws.{parts_empty, parts_no_posts, parts_no_stops, parts_there}
use Rattle.job.proofs.check_parts.Goals as goal

pub returns-then-empty_area : goal.returns-then-empty_area
returns-then-empty_area c = parts_empty _ _ _ c.empty_area.ensures c.if-empty_area.true

pub returns-then-posts-eq0 : goal.returns-then-posts-eq0
returns-then-posts-eq0 c = parts_no_posts _ _ _ c.empty_area.ensures c.if-empty_area.false c.if-posts-eq0.true

pub returns-then-stops-eq0 : goal.returns-then-stops-eq0
returns-then-stops-eq0 c = parts_no_stops _ _ _ c.empty_area.ensures c.if-empty_area.false c.if-posts-eq0.false c.if-stops-eq0.true

pub returns : goal.returns
returns c = parts_there _ _ _ c.empty_area.ensures c.if-empty_area.false c.if-posts-eq0.false c.if-stops-eq0.false
