-- What `job_file::put_stops` owes.
use Rattle.write.proofs.WrittenLaws.{wrote_nothing}
use Rattle.deck.specs.Values.{stop_of, no_stop}
use Rattle.job.specs.Spelling.{stop_line}
use Rattle.job_file.proofs.TextLaws.{texts_none, texts_all, line_room, line_wrote}
use Rattle.job_file.proofs.put_stops.Goals as goal

pub loop-stop-init : goal.loop-stop-init
loop-stop-init c = rw (texts_none stop_line stop_of c.args.stops.now) (wrote_nothing c.args.w.now)

pub put_stop-requires : goal.put_stop-requires
put_stop-requires c = line_room stop_line stop_of c.args.stops.now c.loop-stop.stop-index no_stop c.loop-stop-test.true c.loop-stop.invariant c.requires

pub loop-stop-preserved : goal.loop-stop-preserved
loop-stop-preserved c =
    line_wrote stop_line stop_of c.args.stops.now c.loop-stop.stop-index no_stop c.loop-stop-test.true c.loop-stop.invariant c.put_stop.ensures

pub returns : goal.returns
returns c = rw (texts_all stop_line stop_of c.args.stops.now c.loop-stop-test.false) at c.loop-stop.invariant
