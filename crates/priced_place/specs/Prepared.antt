-- The problem of a deck (RULES "Deck", "Lines") as the code holds it.
use Rattle.std.specs.Prelude.{◌≡◌, length}
use Rattle.query.specs.Place.{NonEmpty, x_axis, y_axis}
use Rattle.query.specs.Deck as Query
use Rattle.query.specs.Lines.{lines}
use Rattle.query.specs.Problem as QueryProblem
use Rattle.query.specs.Range.{InRange}
use Rattle.deck.specs.Values.{rect_of}
use Rattle.columns.specs.Objects.{pricing_of}
use Rattle.columns.specs.ObjectColumns.{columns_of}
use Rattle.reach.specs.Held.{columns_of_objects, count_of_objects, pricing_of_objects}
use Rattle.lines.specs.LineRecord.{grid_of}
use Rattle.prepare.specs.declared.Problem.{Problem}
use Rattle.priced_place.specs.ObjectProblem.{object_problem}

-- the problem of the objects, the lines and the area that a record holds
abbrev pub problem_of : Problem → QueryProblem.Problem
problem_of p = object_problem (pricing_of_objects p.objects) (grid_of p.vertical p.horizontal) (rect_of p.area)

-- the problem of some deck in range that has an area
pub record Prepared (problem : Problem) : Type 0 where
  pub deck : Query.Deck
  pub range : InRange deck
  pub full : NonEmpty deck.area
  pub columns_are : columns_of_objects problem.objects ≡ columns_of (pricing_of deck)
  pub count_is : count_of_objects problem.objects ≡ length deck.stops
  pub vertical_are : problem.vertical ≡ lines deck x_axis
  pub horizontal_are : problem.horizontal ≡ lines deck y_axis
  pub area_is : rect_of problem.area ≡ deck.area
