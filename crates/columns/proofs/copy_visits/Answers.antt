-- What `columns::copy_visits` owes.
use mathlib.Core.Path.{sym, ◌∙◌}
use Prim.Native.Nat.{◌^◌, ◌<◌}
use native.Mathlib.Omega.{arith}
use lib.IntN.{pos}
use lib.ListN.{get_or, length-map}
use mir.Syntax.{w32}
use mir.ValLaws.{to_z_pos}
use Rattle.numbers.proofs.Joined.{map_at}
use Rattle.deck.specs.Values.{no_stop}
use Rattle.deck.specs.declared.Stop.{Stop}
use Rattle.deck.proofs.DeckLaws.{visits_in_range}
use Rattle.columns.proofs.CopyLaws.{copied_none, copied_start, copied_whole}
use Rattle.columns.proofs.copy_visits.Goals as goal

pub loop-i-init : goal.loop-i-init
loop-i-init c = copied_none _ _ _ _

pub overflow_cast-to : goal.overflow_cast-to
overflow_cast-to c = omega (arith, visits_in_range c.requires.0 c.loop-i.i no_stop c.loop-i-test.true)

pub loop-i-preserved : goal.loop-i-preserved
loop-i-preserved c =
    let from = c.args.from.now in
    let count = length-map from (λ (s : Stop). pos s.visits) in
    let small : (get_or from c.loop-i.i no_stop).visits < 2 ^ 31 =
    omega (arith, visits_in_range c.requires.0 c.loop-i.i no_stop c.loop-i-test.true) in
    copied_start _ _ _ (pos 0) (omega (arith, count, c.requires.1)) c.loop-i.invariant (omega (arith, count, c.loop-i-test.true))
    (to_z_pos w32 _ small ∙ sym (map_at (λ (s : Stop). pos s.visits) from c.loop-i.i (pos 0) no_stop c.loop-i-test.true))

pub returns : goal.returns
returns c =
    let count = length-map c.args.from.now (λ (s : Stop). pos s.visits) in
    copied_whole _ _ (omega (arith, count, c.requires.1)) c.loop-i.invariant (omega (arith, count, c.loop-i-test.false))
