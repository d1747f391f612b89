-- What `job_file::put_place` owes.
use borrow.Author.Rules.{rules}
use mir.Syntax.{w64}
use mir.ValLaws.{to_z-of_z}
use Rattle.write.proofs.WrittenLaws.{wrote_both}
use Rattle.job_file.proofs.put_place.Goals as goal

pub returns : goal.returns
returns c =
    let v = rw (to_z-of_z w64 c.args.p.x (search rules)) at c.put_number.ensures in
    let w = rw (to_z-of_z w64 c.args.p.y (search rules)) at c.put_number-2.ensures in
    wrote_both v w
