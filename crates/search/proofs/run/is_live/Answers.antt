-- What `search::run::is_live` owes.
use mathlib.Core.Path.{◌≡◌, ◌∙◌}
use Rattle.query.specs.Order.{precedes, cell_key, priced_key}
use Rattle.cells.specs.Held.{query_cell}
use Rattle.priced_place.specs.ObjectProblem.{priced_of}
use Rattle.search.proofs.LiveLaws.{live_behind, live_cut}
use Rattle.search.proofs.run.is_live.Goals as goal

pub returns-then-precedes : goal.returns-then-precedes
returns-then-precedes c =
    let a = c.args in
    let compared : c.precedes.result ≡ precedes (cell_key (query_cell a.cell)) (priced_key (priced_of a.best)) =
    c.precedes.ensures ∙ (λ i. precedes (c.of_cell.ensures i) (c.priced_key.ensures i)) in
    rw (c.as_slice-vertical.ensures.lines, c.as_slice-horizontal.ensures.lines) at c.can_cut.ensures
    ∙ live_cut _ (priced_of a.best) (query_cell a.cell) _ compared c.if-precedes.true

pub returns-else-precedes : goal.returns-else-precedes
returns-else-precedes c =
    let a = c.args in
    let compared : c.precedes.result ≡ precedes (cell_key (query_cell a.cell)) (priced_key (priced_of a.best)) =
    c.precedes.ensures ∙ (λ i. precedes (c.of_cell.ensures i) (c.priced_key.ensures i)) in
    c.if-precedes.false ∙ live_behind _ (priced_of a.best) (query_cell a.cell) _ compared c.if-precedes.false
