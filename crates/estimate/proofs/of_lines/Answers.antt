-- What `estimate::of_lines` owes.
use native.Mathlib.Omega.{arith}
use Rattle.estimate.proofs.LineCounts.{counted}
use Rattle.estimate.proofs.of_lines.Goals as goal

pub returns : goal.returns
returns c = counted _ _ _ c.requires _ _ c.gaps-across.ensures c.gaps-deep.ensures _ (omega (arith, c.min-cells.ensures))
