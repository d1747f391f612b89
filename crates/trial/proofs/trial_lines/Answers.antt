-- What `trial::trial_lines` owes.
use mathlib.Core.Path.{◌≡◌, ap, ◌∙◌}
use native.Mathlib.Omega.{arith}
use mathlib.Core.List.{List, ◌++◌}
use denote.Bor.{Bor}
use lib.IntN.{ℤ}
use lib.ListN.{length, drop}
use Rattle.query.specs.Lines.{lines}
use Rattle.trial.specs.Trial.{lines_axis}
use Rattle.trial.proofs.OpenLaws.{Open, open_accepted, open_refused}
use Rattle.trial.proofs.CutLaws.{vertical_lines, horizontal_lines, written_none, written_lines}
use Rattle.trial.proofs.trial_lines.Goals.{then-across, else-across}
use Rattle.trial.proofs.trial_lines.Goals as goal

abbrev now : Bor (List ℤ) → List ℤ
now lines = lines.now

pub returns-in_default : goal.returns-in_default
returns-in_default c = open_refused _ _ c.of_job.ensures _ _ c.in_default.is

pub returns-then-out-n : goal.returns-then-out-n
returns-then-out-n c =
    let w : Open c.args.job.now c.in-Some.o = open_accepted _ _ c.of_job.ensures _ c.in-Some.is in
    let they : c.if-across.lines.now ≡ lines w.job.job.deck (lines_axis c.args.across) =
    elim c.if-across.branch [
      | then-across b ↦ ap now b.lines-is ∙ b.as_slice-lines.ensures.lines ∙ vertical_lines w c.args.across b.if-across.true
      | else-across b ↦ ap now b.lines-is ∙ b.as_slice-lines-else-across.ensures.lines ∙ horizontal_lines w c.args.across b.if-across.false
    ] in
    written_none w c.args.across (ap length they) c.args.out.now (omega (arith, c.if-out-n.true))

pub returns : goal.returns
returns c =
    let w : Open c.args.job.now c.in-Some.o = open_accepted _ _ c.of_job.ensures _ c.in-Some.is in
    let they : c.if-across.lines.now ≡ lines w.job.job.deck (lines_axis c.args.across) =
    elim c.if-across.branch [
      | then-across b ↦ ap now b.lines-is ∙ b.as_slice-lines.ensures.lines ∙ vertical_lines w c.args.across b.if-across.true
      | else-across b ↦ ap now b.lines-is ∙ b.as_slice-lines-else-across.ensures.lines ∙ horizontal_lines w c.args.across b.if-across.false
    ] in
    written_lines w c.args.across (ap length they) c.args.out.now c.if-out-n.false
    (λ i. (c.copy_from_slice.ensures.after ∙ they) i ++ drop (length (they i)) c.args.out.now)
