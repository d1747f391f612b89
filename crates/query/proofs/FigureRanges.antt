-- The figures of a report and the cells of a search stay in range where the deck is.
use mathlib.Core.Path.{subst}
use mathlib.Core.List.Memᴰ
use mathlib.Core.List.{◌∷◌, map, Memᴰ}
use Prim.Native.Nat.{ℕ, ◌≤◌}
use native.Mathlib.Omega.{arith}
use lib.IntN.{ℤ, pos, nat_abs}
use lib.Signed.{lt_z, ◌≤ℤ◌}
use Rattle.numbers.proofs.Integer.{order, abs_range}
use Rattle.numbers.proofs.Members.{least_member}
use Rattle.numbers.proofs.Orders.{lt_z_strict}
use Rattle.query.specs.Place.{Place, Rect, In, NonEmpty, corner}
use Rattle.query.specs.Deck.{Deck}
use Rattle.query.specs.Bound.{bound}
use Rattle.query.specs.Problem.{problem}
use Rattle.query.specs.Order.{Cell}
use Rattle.query.specs.Search.{run}
use Rattle.query.specs.Figures.{high, low, figures_of, figures}
use Rattle.query.specs.Range.{coordinate_limit, PlaceInRange, RectInRange, InRange, cost_limit, RunInRange}
use Rattle.query.proofs.Ranges.{figure_limits}
use Rattle.query.proofs.CutLaws.{cut_law}
use Rattle.query.proofs.Invariant.{Ok, run_ok}
use Rattle.query.proofs.Beaten.{best_costs}
use Rattle.query.proofs.Counts.{cuts_most}
use Rattle.query.proofs.Promise3.{lawful, promise_3}

-- a point of a rectangle in range is in range
within_range : (k : ℕ) (lo v hi : ℤ) → nat_abs lo ≤ k → nat_abs hi ≤ k → lo ≤ℤ v → v ≤ℤ hi → nat_abs v ≤ k
within_range k lo v hi a b h g = let p = (abs_range lo k).0 a in let q = (abs_range hi k).0 b in (abs_range v k).1 (omega (arith, order))

pub point_in_range : (r : Rect) (p : Place) → RectInRange r → In r p → PlaceInRange p
point_in_range r p h i = record {
  x_range = within_range coordinate_limit r.xlo p.x r.xhi h.low_corner_law.x_range h.high_corner_law.x_range i.left i.right;
  y_range = within_range coordinate_limit r.ylo p.y r.yhi h.low_corner_law.y_range h.high_corner_law.y_range i.front i.back;
}

-- a figure that is not negative, and at most the cost limit
record FigureInRange (z : ℤ) : Type 0 where
  some : pos 0 ≤ℤ z
  most : z ≤ℤ pos cost_limit

natural : (n : ℕ) → n ≤ cost_limit → FigureInRange (pos n)
natural n h = omega (arith, order)

module _ (deck : Deck) (range : InRange deck) (full : NonEmpty deck.area) where
  ok : (n : ℕ) → Ok (problem deck) (run (problem deck) n).best (run (problem deck) n).live
  ok n = run_ok (problem deck) (lawful deck full) (cut_law (problem deck).rules.grid) n

  cell_in_range : (n : ℕ) (c : Cell) → Memᴰ c (run (problem deck) n).live → RectInRange c.rect
  unfolding problem
  cell_in_range n c m = let cell = (ok n).cells c m in record {
    low_corner_law = point_in_range deck.area (corner c.rect) range.area (cell.within (corner c.rect) (omega (arith, order, cell.full)));
    high_corner_law = point_in_range deck.area (record { x = c.rect.xhi; y = c.rect.yhi }) range.area
        (cell.within (record { x = c.rect.xhi; y = c.rect.yhi }) (omega (arith, order, cell.full)));
  }

  bound_in_range : (n : ℕ) (c : Cell) → Memᴰ c (run (problem deck) n).live → FigureInRange c.bound
  unfolding problem
  bound_in_range n c m = rw ((ok n).cells c m).bound_is (natural (bound deck c.rect) ((figure_limits deck range).bound_limit c.rect))

  high_in_range : (n : ℕ) → high (run (problem deck) n) ≤ cost_limit
  high_in_range n = omega (
    arith,
    (figure_limits deck range).cost_limit_lem (run (problem deck) n).best.at,
    best_costs deck (run (problem deck) n).best (ok n).best_ok,
  )

  low_in_range : (n : ℕ) → FigureInRange (low (run (problem deck) n))
  unfolding low
  low_in_range n = go (low (run (problem deck) n)) (least_member lt_z lt_z_strict (pos (high (run (problem deck) n)))
      (map (λ c. c.bound) (run (problem deck) n).live))
    where
      go : (l : ℤ) → Memᴰ l (pos (high (run (problem deck) n)) ∷ map (λ c. c.bound) (run (problem deck) n).live) → FigureInRange l
      go l (Memᴰ.head e) = rw e (natural (high (run (problem deck) n)) (high_in_range n))
      go l (Memᴰ.tail m) = let w = Memᴰ.of_map (λ (c : Cell). c.bound) (run (problem deck) n).live m in
          subst (λ (z : ℤ). FigureInRange z) w.2 (bound_in_range n w.0 w.1)

  pub run_in_range : (n : ℕ) → RunInRange deck n
  unfolding figures figures_of
  run_in_range n = record {
    figures_range = record {
      place = point_in_range deck.area (run (problem deck) n).best.at range.area (promise_3 deck full n).in_area;
      high_limit = high_in_range n;
      low_some = (low_in_range n).some;
      low_limit = (low_in_range n).most;
      before_limit = (figure_limits deck range).before_limit;
      rounds_limit_lem = cuts_most (problem deck) n;
    };
    cells_range = cell_in_range n;
    bounds_some = λ c m. (bound_in_range n c m).some;
    bounds_limit = λ c m. (bound_in_range n c m).most;
  }
