-- What `job::read_with` owes.
use mathlib.Core.Path.{refl}
use native.Mathlib.Omega.{arith}
use Rattle.job.proofs.PartLaws.{handed}
use Rattle.job.proofs.FilledLaws.{axis_in_range}
use Rattle.job.proofs.ReadLaws.{read_long, read_no_area, second, read_no_axis, read_rest}
use Rattle.job.proofs.read_with.Goals as goal

pub returns-then-bytes-gt-JOB_BYTES : goal.returns-then-bytes-gt-JOB_BYTES
returns-then-bytes-gt-JOB_BYTES c = read_long _ _ c.if-bytes-gt-JOB_BYTES.true

pub returns-in_err-area : goal.returns-in_err-area
returns-in_err-area c =
    rw (handed _ c.from_residual.ensures.1)
    (read_no_area _ refl c.if-bytes-gt-JOB_BYTES.false c.in_err-area.ensures)

pub read_axis-requires : goal.read_axis-requires
read_axis-requires c = omega (arith, second c.args.missing refl c.if-bytes-gt-JOB_BYTES.false c.in_ok-area.unread c.in_ok-area.ensures)

pub returns-in_err-costs : goal.returns-in_err-costs
returns-in_err-costs c =
    rw (handed _ c.from_residual-in_err-costs.ensures.1)
    (read_no_axis _ refl c.if-bytes-gt-JOB_BYTES.false c.in_ok-area.unread c.in_ok-area.ensures c.in_err-costs.ensures)

pub read_rest-requires : goal.read_rest-requires
read_rest-requires c = (
  omega (arith, c.in_ok-costs.ensures.few, second c.args.missing refl c.if-bytes-gt-JOB_BYTES.false c.in_ok-area.unread c.in_ok-area.ensures),
  axis_in_range c.in_ok-costs.ensures c.requires,
)

pub returns : goal.returns
returns c =
    read_rest _ refl c.if-bytes-gt-JOB_BYTES.false c.in_ok-area.unread c.in_ok-area.ensures c.in_ok-costs.ensures c.read_rest.ensures
