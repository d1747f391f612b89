-- The problem that the code prepares of a deck is the deck's.
use mathlib.Core.Path.{◌≡◌, sym, ap, subst, ◌∙◌}
use lib.IntN.{pos}
use lib.ListN.{length}
use Rattle.query.specs.Place as Place
use Rattle.query.specs.Deck as Query
use Rattle.query.specs.Grid.{grid}
use Rattle.query.specs.Lines.{lines}
use Rattle.query.specs.Problem.{problem}
use Rattle.query.specs.Range.{InRange}
use Rattle.deck.specs.Values.{rect_of}
use Rattle.columns.specs.Objects.{pricing_of}
use Rattle.columns.specs.ObjectColumns.{pricing_in, columns_of}
use Rattle.reach.specs.Columns.{Ranged}
use Rattle.reach.specs.Held.{columns_of_objects, count_of_objects, pricing_of_objects}
use Rattle.reach.proofs.RecordLaws.{made_pricing}
use Rattle.pricing.proofs.ObjectLaws.{cost_law, bound_law}
use Rattle.lines.specs.LineRecord.{grid_of}
use Rattle.prepare.specs.declared.Problem.{Problem}
use Rattle.prepare.specs.ProblemRecord.{Parts, parts_in, problem_record}
use Rattle.priced_place.specs.ObjectProblem.{object_problem}
use Rattle.priced_place.specs.Prepared.{problem_of, Prepared}

-- ---- the problem of a deck
deck_problem : (deck : Query.Deck) → object_problem (pricing_of deck) (grid deck) deck.area ≡ problem deck
unfolding problem
deck_problem deck = λ i. record {
  area = deck.area;
  rules = record { grid = grid deck; price = λ p. cost_law deck p i; bound = λ r. pos (bound_law deck r i) };
}

-- ---- a problem that was prepared
module _ {p : Problem} (prepared : Prepared p) where
  abbrev deck : Query.Deck
  deck = prepared.deck

  pub prepared_ranged : Ranged (rect_of p.area)
  prepared_ranged = subst Ranged (sym prepared.area_is) (record { range = prepared.range.area; full = prepared.full })

  -- what pricing needs, the lines and the whole problem are the deck's
  pub prepared_pricing : pricing_of_objects p.objects ≡ pricing_of deck
  prepared_pricing =
      (λ i. pricing_in (prepared.columns_are i) (prepared.count_is i)) ∙ made_pricing deck prepared.range

  pub prepared_grid : grid_of p.vertical p.horizontal ≡ grid deck
  unfolding grid
  prepared_grid = λ i. grid_of (prepared.vertical_are i) (prepared.horizontal_are i)

  pub prepared_problem : problem_of p ≡ problem deck
  prepared_problem = (λ i. object_problem (prepared_pricing i) (prepared_grid i) (prepared.area_is i)) ∙ deck_problem deck

-- ---- the problem that was made of a deck in range was prepared
module _ (deck : Query.Deck) (p : Problem) (e : parts_in p ≡ problem_record deck) where
  pub made_columns : columns_of_objects p.objects ≡ columns_of (pricing_of deck)
  unfolding problem_record
  made_columns = ap (λ (q : Parts). q.columns) e

  pub made_count : count_of_objects p.objects ≡ length deck.stops
  unfolding problem_record
  made_count = ap (λ (q : Parts). q.count) e

  pub made_vertical : p.vertical ≡ lines deck Place.x_axis
  unfolding problem_record
  made_vertical = ap (λ (q : Parts). q.vertical) e

  pub made_horizontal : p.horizontal ≡ lines deck Place.y_axis
  unfolding problem_record
  made_horizontal = ap (λ (q : Parts). q.horizontal) e

  pub made_area : rect_of p.area ≡ deck.area
  unfolding problem_record
  made_area = ap (λ (q : Parts). rect_of q.area) e

abbrev pub made_prepared : (deck : Query.Deck) → InRange deck → Place.NonEmpty deck.area → (p : Problem) → parts_in p ≡ problem_record deck → Prepared p
made_prepared deck range full p e = record {
  deck = deck;
  range = range;
  full = full;
  columns_are = made_columns deck p e;
  count_is = made_count deck p e;
  vertical_are = made_vertical deck p e;
  horizontal_are = made_horizontal deck p e;
  area_is = made_area deck p e;
}
