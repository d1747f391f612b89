-- What `job_file::axis_len` owes.
use mathlib.Core.Path.{sym, ap, ◌∙◌}
use native.Mathlib.Omega.{arith}
use lib.ListN.{length}
use Rattle.deck.specs.Values.{held_axis}
use Rattle.job_file.proofs.TextLaws.{axis_left_out, length_axis}
use Rattle.job_file.proofs.axis_len.Goals as goal

pub returns-then-writes_axis : goal.returns-then-writes_axis
returns-then-writes_axis c =
    let line = length_axis (held_axis c.args.c) (sym c.writes_axis.ensures ∙ c.if-writes_axis.true) in
    record { value = omega (arith, line); upper_bound = omega arith }

pub returns-else-writes_axis : goal.returns-else-writes_axis
returns-else-writes_axis c =
    let none = ap length (axis_left_out (held_axis c.args.c) (sym c.writes_axis.ensures ∙ c.if-writes_axis.false)) in
    record { value = omega (arith, none); upper_bound = omega arith }
