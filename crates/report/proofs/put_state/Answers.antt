-- What `report::put_state` owes.
use mathlib.Core.Path.{◌≡◌, ap}
use Prim.Native.Nat.{ℕ}
use mathlib.Core.List.{List, ◌++◌}
use Rattle.text.specs.Ascii.{bytes}
use Rattle.write.specs.declared.Writer.{Writer}
use Rattle.write.specs.Written.{Wrote}
use Rattle.write.proofs.WrittenLaws.{wrote_both}
use Rattle.report.specs.declared.State.{State}
use Rattle.report.specs.Report.{report_state}
use Rattle.report.specs.Text.{state_text}
use Rattle.report.proofs.put_state.Goals as goal

finish : {before mid after : Writer} {key word : List ℕ} (s : State) → state_text (report_state s) ≡ word → Wrote before key mid → Wrote mid word after →
    Wrote before (key ++ state_text (report_state s)) after
finish s e v w = rw e (wrote_both v w)

pub returns-in-Done : goal.returns-in-Done
unfolding bytes
returns-in-Done c = finish c.args.state (ap (λ s. state_text (report_state s)) c.in-Done.is) c.put.ensures c.put-in-Done.ensures

pub returns-in-Stopped : goal.returns-in-Stopped
unfolding bytes
returns-in-Stopped c = finish c.args.state (ap (λ s. state_text (report_state s)) c.in-Stopped.is) c.put.ensures c.put-in-Stopped.ensures
