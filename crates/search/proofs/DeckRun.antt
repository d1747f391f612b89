-- A deck's search as the code prepares it: what its runs keep in range.
use mathlib.Core.Path.{sym, subst}
use Rattle.query.specs.Place.{NonEmpty}
use Rattle.query.specs.Deck.{Deck}
use Rattle.query.specs.Problem.{problem}
use Rattle.query.specs.Figures.{figures, figures_of}
use Rattle.query.specs.Range.{InRange}
use Rattle.query.proofs.CutLaws.{cut_law}
use Rattle.query.proofs.Invariant.{run_ok}
use Rattle.query.proofs.Promise3.{lawful}
use Rattle.query.proofs.FigureRanges.{run_in_range}
use Rattle.prepare.specs.declared.Problem.{Problem}
use Rattle.priced_place.specs.Prepared.{problem_of, Prepared}
use Rattle.priced_place.proofs.DeckProblem.{prepared_problem}
use Rattle.search.proofs.RunLaws.{Steady}

deck_steady : (deck : Deck) → InRange deck → NonEmpty deck.area → Steady (problem deck)
unfolding figures figures_of
deck_steady deck range full = record {
  ranged = λ n c m. record {
    range = (run_in_range deck range full n).cells_range c m;
    full = ((run_ok (problem deck) (lawful deck full) (cut_law (problem deck).rules.grid) n).cells c m).full;
  };
  cost_limit_lem = λ n. (run_in_range deck range full n).figures_range.high_limit;
}

pub steady : {p : Problem} → Prepared p → Steady (problem_of p)
steady p = subst Steady (sym (prepared_problem p)) (deck_steady p.deck p.range p.full)
