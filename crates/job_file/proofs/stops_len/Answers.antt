-- What `job_file::stops_len` owes.
use mathlib.Core.Path.{ap, sym, ◌∙◌}
use native.Mathlib.Omega.{arith}
use lib.ListN.{length, get_or}
use Rattle.deck.specs.Values.{stop_of, no_stop}
use Rattle.job.specs.Spelling.{stop_line}
use Rattle.job_file.proofs.TextLaws.{texts_none, texts_all, line_counted, length_stop}
use Rattle.job_file.proofs.stops_len.Goals as goal

pub loop-stop-init : goal.loop-stop-init
loop-stop-init c = (sym (ap length (texts_none stop_line stop_of c.args.stops.now)), omega arith)

pub loop-stop-preserved : goal.loop-stop-preserved
loop-stop-preserved c = (
  omega (
    arith,
    c.loop-stop.invariant.0,
    c.place_len.ensures.value,
    c.text_len.ensures.value,
    line_counted stop_line stop_of c.args.stops.now c.loop-stop.stop-index no_stop c.loop-stop-test.true,
    length_stop (stop_of (get_or c.args.stops.now c.loop-stop.stop-index no_stop)),
  ),
  omega arith,
)

pub returns-clause-value : goal.returns-clause-value
returns-clause-value c = c.loop-stop.invariant.0 ∙ ap length (texts_all stop_line stop_of c.args.stops.now c.loop-stop-test.false)
