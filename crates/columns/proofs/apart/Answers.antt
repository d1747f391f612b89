-- What `columns::apart` owes.
use mathlib.Core.Path.{◌≡◌, ap, ◌∙◌}
use native.Mathlib.Omega.{arith}
use lib.IntN.{pos}
use mir.Syntax.{w32}
use mir.ValLaws.{to_z_pos}
use Rattle.numbers.specs.Integer.{dist}
use Rattle.numbers.proofs.Distance.{dist_most}
use Rattle.columns.specs.Ranges.{scaled_limit}
use Rattle.columns.proofs.WordLaws.{coordinate}
use Rattle.columns.proofs.apart.Goals as goal

pub returns : goal.returns
unfolding dist
returns c =
    let e : c.abs_diff.result ≡ dist c.args.u c.args.v =
    c.abs_diff.ensures ∙ rw (coordinate c.args.u c.requires.x_range, coordinate c.args.v c.requires.y_range) in
    to_z_pos w32 c.abs_diff.result (omega (arith, e, dist_most scaled_limit c.args.u c.args.v c.requires.x_range c.requires.y_range)) ∙ ap pos e
