-- Places, priced places and cells are each in a strict order: `earlier`, `precedes`, `better`, `cell_before`; and how to show that one does
-- not come before another.
use mathlib.Core.Path.{◌≡◌, sym}
use mathlib.Core.Bool.{not}
use Prim.Native.Nat.{◌≤◌}
use native.Mathlib.Omega.{arith}
use lib.Dec.{T, eqb→eq}
use lib.IntN.{pos}
use lib.Signed.{lt_z, ◌≤ℤ◌}
use Rattle.numbers.specs.Integer.{eq_z}
use Rattle.numbers.proofs.Truth.{not_either}
use Rattle.numbers.proofs.Integer.{order}
use Rattle.numbers.proofs.Members.{Strict}
use Rattle.numbers.proofs.Orders.{lt_z_strict, lt_z_ties, strict_on, ties_on, lex_strict}
use Rattle.query.specs.Place.{Place, In, corner, earlier}
use Rattle.query.specs.Order.{Priced, Cell, Key, precedes, priced_key, cell_key, better, cell_before}

pub earlier_strict : Strict earlier
unfolding earlier
earlier_strict = lex_strict (strict_on (λ (p : Place). p.x) lt_z_strict) (ties_on (λ (p : Place). p.x) lt_z_ties) (strict_on (λ (p : Place). p.y) lt_z_strict)

pub precedes_strict : Strict precedes
unfolding precedes
precedes_strict = lex_strict (strict_on (λ (k : Key). k.figure) lt_z_strict) (ties_on (λ (k : Key). k.figure) lt_z_ties)
    (strict_on (λ (k : Key). k.place) earlier_strict)

pub better_strict : Strict better
unfolding better
better_strict = strict_on priced_key precedes_strict

pub cell_before_strict : Strict cell_before
unfolding cell_before
cell_before_strict = strict_on cell_key precedes_strict

-- ---- one that does not come before another
pub not_earlier : (p q : Place) → q.x ≤ℤ p.x → q.y ≤ℤ p.y → T (not (earlier p q))
unfolding earlier
not_earlier p q h k = (not_either (lt_z p.x q.x) (eq_z p.x q.x) (lt_z p.y q.y)).1 (omega (arith, order), λ e. omega (arith, order))

-- and what it says that one does not
pub not_earlier_x : (p q : Place) → T (not (earlier p q)) → q.x ≤ℤ p.x
unfolding earlier
not_earlier_x p q t = omega (arith, order, ((not_either (lt_z p.x q.x) (eq_z p.x q.x) (lt_z p.y q.y)).0 t).0)

pub not_earlier_y : (p q : Place) → T (not (earlier p q)) → p.x ≡ q.x → q.y ≤ℤ p.y
unfolding earlier
not_earlier_y p q t e = omega (arith, order, ((not_either (lt_z p.x q.x) (eq_z p.x q.x) (lt_z p.y q.y)).0 t).1 (omega (arith, order)))

pub not_better : (p q : Priced) → q.cost ≤ p.cost → (p.cost ≡ q.cost → T (not (earlier p.at q.at))) → T (not (better p q))
unfolding better precedes
not_better p q h k = (not_either (lt_z (pos p.cost) (pos q.cost)) (eq_z (pos p.cost) (pos q.cost)) (earlier p.at q.at)).1 (
  omega (arith, order),
  λ e. k (omega (arith, eqb→eq)),
)

-- a place that is not better does not cost less, and where it costs the same is not earlier
pub not_better_cost : (p q : Priced) → T (not (better p q)) → q.cost ≤ p.cost
unfolding better precedes
not_better_cost p q t = omega (
  arith,
  order,
  ((not_either (lt_z (pos p.cost) (pos q.cost)) (eq_z (pos p.cost) (pos q.cost)) (earlier p.at q.at)).0
      t).0,
)

pub not_better_earlier : (p q : Priced) → T (not (better p q)) → p.cost ≡ q.cost → T (not (earlier p.at q.at))
unfolding better precedes
not_better_earlier p q t e = ((not_either (lt_z (pos p.cost) (pos q.cost)) (eq_z (pos p.cost) (pos q.cost)) (earlier p.at q.at)).0 t).1
    (omega (arith, order))

-- two places of which neither is better are one
pub not_better_antisym : (p q : Priced) → T (not (better p q)) → T (not (better q p)) → p ≡ q
not_better_antisym p q t u =
    let same : p.cost ≡ q.cost = omega (arith, not_better_cost p q t, not_better_cost q p u) in
    let a = not_better_earlier p q t same in
    let b = not_better_earlier q p u (sym same) in
    let level : p.at.x ≡ q.at.x = omega (arith, order, not_earlier_x p.at q.at a, not_earlier_x q.at p.at b) in
    let beside : p.at.y ≡ q.at.y = omega (arith, order, not_earlier_y p.at q.at a level, not_earlier_y q.at p.at b (sym level)) in
    λ i. record { at = record { x = level i; y = beside i }; cost = same i }

-- no point of a cell comes before the cell
pub point_after_cell : (c : Cell) (p : Priced) → In c.rect p.at → c.bound ≤ℤ pos p.cost → T (not (precedes (priced_key p) (cell_key c)))
unfolding precedes
point_after_cell c p h k = (not_either (lt_z (pos p.cost) c.bound) (eq_z (pos p.cost) c.bound) (earlier p.at (corner c.rect))).1
    (omega (arith, order), λ e. not_earlier p.at (corner c.rect) h.left h.front)
