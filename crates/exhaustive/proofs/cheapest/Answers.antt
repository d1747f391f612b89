-- What `exhaustive::cheapest` owes.
use mathlib.Core.Path.{sym, subst}
use Prim.Native.Nat.{ℕ}
use lib.ListN.{length-replicate}
use Rattle.query.specs.Range.{stops_limit}
use Rattle.exhaustive.specs.Ramps.{LinesInRange, table_size}
use Rattle.exhaustive.proofs.DeckCrossings.{vertical_lines, horizontal_lines, corner_near, answers}
use Rattle.exhaustive.proofs.cheapest.Goals as goal

pub number_lines-requires : goal.number_lines-requires
number_lines-requires c = (subst LinesInRange (sym c.as_slice-horizontal.ensures.lines) (horizontal_lines c.requires.0), length-replicate {A = ℕ} table_size 0)

pub number_objects-requires : goal.number_objects-requires
number_objects-requires c = length-replicate {A = ℕ} stops_limit 0

pub priced-first-requires : goal.priced-first-requires
priced-first-requires c = corner_near c.requires.0

pub invariant_of-lines : goal.invariant_of-lines
invariant_of-lines c =
    record { in_range = subst LinesInRange (sym c.as_slice-horizontal.ensures.lines) (horizontal_lines c.requires.0); numbered = c.number_lines.ensures }

pub new-crossings-requires : goal.new-crossings-requires
new-crossings-requires c = (c.number_objects.ensures.lines, c.requires.1)

pub cheapest_of-requires : goal.cheapest_of-requires
cheapest_of-requires c = subst LinesInRange (sym c.as_slice-vertical.ensures.lines) (vertical_lines c.requires.0)

pub returns : goal.returns
returns c =
    let made = c.new-crossings.ensures in
    let best = rw (made.objects, made.lines, c.as_slice-horizontal.ensures.lines, c.as_slice-vertical.ensures.lines) at c.cheapest_of.ensures in
    answers c.requires.0 _ _ c.priced-first.ensures best
