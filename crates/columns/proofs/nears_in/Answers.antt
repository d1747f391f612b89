-- What `columns::nears_in` owes.
use mathlib.Core.Path.{sym}
use native.Mathlib.Omega.{arith}
use Rattle.numbers.proofs.Padded.{padded_none}
use Rattle.query.specs.Range.{stops_limit}
use Rattle.columns.proofs.MadeNears.{row_natural, row_more}
use Rattle.columns.proofs.nears_in.Goals as goal

pub loop-row-init : goal.loop-row-init
loop-row-init c = (omega arith, sym (padded_none stops_limit 0))

pub overflow_cast-near : goal.overflow_cast-near
overflow_cast-near c = row_natural c.requires.1 _ c.loop-row-test.true (record { sfits = c.near-1.given })

pub loop-row-preserved : goal.loop-row-preserved
loop-row-preserved c =
    (omega arith, row_more c.requires.1 c.requires.0 c.loop-row-test.true (record { sfits = c.near-1.given }) c.loop-row.invariant.1)
