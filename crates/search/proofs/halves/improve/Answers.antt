-- What `search::halves::improve` owes.
use Rattle.search.proofs.BestLaws.{priced_better, improve_taken, improve_left}
use Rattle.search.proofs.halves.improve.Goals as goal

pub returns-then-precedes : goal.returns-then-precedes
returns-then-precedes c =
    let told = priced_better c.args.other c.args.best _ _ _ c.priced_key.ensures c.priced_key-2.ensures c.precedes.ensures in
    record { better = improve_taken _ _ _ told c.if-precedes.true; limit = c.requires.1 }

pub returns : goal.returns
returns c =
    let told = priced_better c.args.other c.args.best _ _ _ c.priced_key.ensures c.priced_key-2.ensures c.precedes.ensures in
    record { better = improve_left _ _ _ told c.if-precedes.false; limit = c.requires.0 }
