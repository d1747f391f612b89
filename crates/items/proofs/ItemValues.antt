-- Posts and stops with equal values are equal; one is held exactly if it is in the list.
use mathlib.Core.Path.{◌≡◌, refl, subst}
use mathlib.Core.Logic.{◌↔◌}
use mathlib.Core.List.{List, Memᴰ}
use Prim.Native.Nat.{ℕ}
use native.Mathlib.Omega.{arith}
use lib.Dec.{T, eqb, eqb→eq, eqb_refl}
use lib.IntN.{ℤ}
use Rattle.numbers.specs.Integer.{eq_z}
use Rattle.numbers.proofs.Integer.{order}
use Rattle.numbers.proofs.Truth.{and_left, and_right, and_intro}
use Rattle.query.specs.Place.{Place}
use Rattle.query.specs.Deck.{Stop}
use Rattle.items.specs.Items.{is_same_place, is_same_stop, held}
use Rattle.items.proofs.FirstRemoved.{held_member}

-- ---- equal numbers
pub same_integer : (u v : ℤ) → T (eq_z u v) ↔ (u ≡ v)
same_integer u v = (λ t. omega (arith, order), λ e. omega (arith, order))

pub same_natural : (m n : ℕ) → T (eqb m n) ↔ (m ≡ n)
same_natural m n = (eqb→eq m n, λ e. subst (λ (k : ℕ). T (eqb m k)) e (eqb_refl m))

-- ---- equal items
pub same_place : (p q : Place) → T (is_same_place p q) → p ≡ q
same_place p q t = λ i. record {
  x = (same_integer p.x q.x).0 (and_left (eq_z p.x q.x) (eq_z p.y q.y) t) i;
  y = (same_integer p.y q.y).0 (and_right (eq_z p.x q.x) (eq_z p.y q.y) t) i;
}

pub place_same : (p : Place) → T (is_same_place p p)
place_same p = and_intro (eq_z p.x p.x) (eq_z p.y p.y) ((same_integer p.x p.x).1 refl) ((same_integer p.y p.y).1 refl)

pub same_stop : (s t : Stop) → T (is_same_stop s t) → s ≡ t
same_stop s t u = λ i. record {
  at = same_place s.at t.at (and_left (is_same_place s.at t.at) (eqb s.visits t.visits) u) i;
  visits = eqb→eq s.visits t.visits (and_right (is_same_place s.at t.at) (eqb s.visits t.visits) u) i;
}

pub stop_same : (s : Stop) → T (is_same_stop s s)
stop_same s = and_intro (is_same_place s.at s.at) (eqb s.visits s.visits) (place_same s.at) (eqb_refl s.visits)

-- ---- held
pub post_held : (p : Place) (posts : List Place) → T (held (is_same_place p) posts) ↔ Memᴰ p posts
post_held = held_member is_same_place same_place place_same

pub stop_held : (s : Stop) (stops : List Stop) → T (held (is_same_stop s) stops) ↔ Memᴰ s stops
stop_held = held_member is_same_stop same_stop stop_same
