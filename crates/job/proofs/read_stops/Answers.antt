-- What `job::read_stops` owes.
use native.Mathlib.Omega.{arith}
use Rattle.query.specs.Range.{stops_limit}
use Rattle.text.specs.Ascii.{bytes}
use Rattle.job_line.specs.Kinds.{stops, stop}
use Rattle.job.proofs.RangeLaws.{count_range}
use Rattle.job.proofs.PartLaws.{
  handed,
  filled_none,
  filled_more,
  stops_none,
  stops_more,
  stops_all,
  counted_in,
  line_small,
  list_no_count,
  list_read,
  list_refused,
}
use Rattle.job.proofs.read_stops.Goals as goal

pub returns-in_err-count : goal.returns-in_err-count
unfolding bytes
returns-in_err-count c = rw (handed _ c.from_residual.ensures.1) (list_no_count stops stop c.requires.0 c.in_err-count.ensures)

pub loop-i-init : goal.loop-i-init
unfolding bytes
loop-i-init c = ((count_range stops_limit _).0 (counted_in stops stop c.requires.0 c.in_ok-count.ensures), filled_none (stops_none c.requires.1))

pub returns-in_err-stop : goal.returns-in_err-stop
unfolding bytes
returns-in_err-stop c =
    rw (handed _ c.from_residual-in_err-stop.ensures.1)
    (list_refused stops stop c.requires.0 _ c.in_ok-count.ensures c.loop-i.invariant.1 c.loop-i-test.true
    (omega (arith, c.loop-i.invariant.0, c.loop-i-test.true))
    c.in_err-stop.ensures)

pub loop-i-preserved : goal.loop-i-preserved
unfolding bytes
loop-i-preserved c =
    let f = c.loop-i.invariant.1 in (
      c.loop-i.invariant.0,
      filled_more f c.loop-i-test.true (line_small stops stop c.requires.0 _ c.in_ok-count.ensures f (omega (arith, c.loop-i.invariant.0, c.loop-i-test.true)))
          c.in_ok-stop.ensures
          (stops_more c.args.deck.now c.loop-i.deck f.lines f.count_is _ f.deck_is (omega (arith, c.loop-i.invariant.0))),
    )

pub returns : goal.returns
unfolding bytes
returns c =
    let f = c.loop-i.invariant.1 in
    list_read stops stop c.requires.0 _ c.in_ok-count.ensures f (omega arith) (omega arith) c.loop-i.invariant.0
    (stops_all f.lines f.count_is (omega arith) (omega arith) c.args.deck.now c.loop-i.deck f.deck_is)
