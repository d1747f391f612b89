-- What `columns::before_of` owes.
use native.Mathlib.Omega.{arith}
use lib.ListN.{length-append}
use mathlib.Core.List.{[], ◌∷◌}
use Rattle.std.proofs.lemmas.Slice.Zip.{zip_turn, zip_end}
use Rattle.deck.specs.Values.{no_stop}
use Rattle.columns.proofs.PaidLaws.{paid_none, term_fits, sum_fits, paid_turn, paid_all}
use Rattle.columns.proofs.before_of.Goals as goal

pub loop-stop-init : goal.loop-stop-init
loop-stop-init c = paid_none _ _

pub overflow_mul-sum : goal.overflow_mul-sum
overflow_mul-sum c =
    let t = zip_turn c.args.stops.now c.args.near.now c.loop-stop.yielded _ _ c.next.new.self _ (cc) (cc) c.loop-stop.yielded_by _ c.in-Some.is
    c.next.ensures.steps in
    omega (arith, term_fits c.requires.0 c.requires.1 c.loop-stop.invariant t.0 (t.2 no_stop) (t.3 0))

pub overflow_add-sum : goal.overflow_add-sum
overflow_add-sum c =
    let t = zip_turn c.args.stops.now c.args.near.now c.loop-stop.yielded _ _ c.next.new.self _ (cc) (cc) c.loop-stop.yielded_by _ c.in-Some.is
    c.next.ensures.steps in
    omega (arith, sum_fits c.requires.0 c.requires.1 c.loop-stop.invariant t.0 (t.2 no_stop) (t.3 0))

pub loop-stop-preserved : goal.loop-stop-preserved
loop-stop-preserved c =
    let t = zip_turn c.args.stops.now c.args.near.now c.loop-stop.yielded _ _ c.next.new.self _ (cc) (cc) c.loop-stop.yielded_by _ c.in-Some.is
    c.next.ensures.steps in
    rw (length-append c.loop-stop.yielded ((c.in-Some.stop, c.in-Some.near) ∷ []))
    (paid_turn c.requires.0 c.requires.1 c.loop-stop.invariant t.0 (t.2 no_stop) (t.3 0))

pub returns : goal.returns
returns c =
    let end = zip_end c.args.stops.now c.args.near.now c.loop-stop.yielded _ _ c.next.new.self _ (cc) (cc) c.loop-stop.yielded_by c.in-None.is
    c.next.ensures.steps in
    paid_all c.requires.0 c.requires.1 c.loop-stop.invariant (omega (arith, end, c.requires.1.count))
