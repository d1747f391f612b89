-- What `trial::trial_reading` owes.
use mathlib.Core.Path.{sym, ap, ◌∙◌}
use native.Mathlib.Omega.{arith}
use lib.IntN.{pos}
use mir.Syntax.{w64}
use mir.ValLaws.{to_z-of_z, to_z_pos}
use Rattle.job.proofs.RefusalLaws.{line_most}
use Rattle.job.proofs.ReadDeck.{read_accepted, read_refused}
use Rattle.trial.proofs.OpenLaws.{rounds_read}
use Rattle.trial.proofs.NumberLaws.{no_refusal, rounds_number, no_rounds, refusal_number}
use Rattle.trial.proofs.trial_reading.Goals as goal

pub overflow_cast-result : goal.overflow_cast-result
overflow_cast-result c = omega (arith, (rounds_read _ _ c.read.ensures _ c.in-Ok.is).0)

pub refusal_figure-requires : goal.refusal_figure-requires
refusal_figure-requires c = line_most _ _ (read_refused _ _ (sym c.in-Err.is ∙ c.read.ensures))

pub returns-in-0 : goal.returns-in-0
returns-in-0 c = no_refusal (read_accepted _ _ (sym c.in-Ok.is ∙ c.read.ensures)).read c.args.which (omega (arith, c.in-0.is))

pub returns-in-1 : goal.returns-in-1
returns-in-1 c = no_refusal (read_accepted _ _ (sym c.in-Ok.is ∙ c.read.ensures)).read c.args.which (omega (arith, c.in-1.is))

pub returns-in-2 : goal.returns-in-2
returns-in-2 c =
    let h = rounds_read _ _ c.read.ensures _ c.in-Ok.is in
    to_z_pos w64 _ (omega (arith, h.0)) ∙ ap pos h.1
    ∙ rounds_number (read_accepted _ _ (sym c.in-Ok.is ∙ c.read.ensures)).read _ c.in-2.is

pub returns-in-2-which : goal.returns-in-2-which
returns-in-2-which c = no_rounds (read_refused _ _ (sym c.in-Err.is ∙ c.read.ensures)) _ c.in-2-which.is

pub returns-in_default-which : goal.returns-in_default-which
returns-in_default-which c =
    to_z-of_z w64 _ (record { sfits = c.refusal_figure.type_inv }) ∙ c.refusal_figure.ensures
    ∙ refusal_number (read_refused _ _ (sym c.in-Err.is ∙ c.read.ensures)) _ (omega arith)
