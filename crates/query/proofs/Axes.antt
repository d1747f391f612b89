-- Both axes in the same words: a rectangle's points and edges along an axis, and places moved along one.
use mathlib.Core.Path.{◌≡◌, refl}
use lib.IntN.{ℤ}
use lib.Signed.{◌≤ℤ◌}
use Rattle.query.specs.Place.{Place, Rect, In, NonEmpty, Axis, x_axis, y_axis, coordinate, low_edge, high_edge}

pub for_both : (Q : Axis → Type 0) → Q x_axis → Q y_axis → (axis : Axis) → Q axis
for_both Q h k x_axis = h
for_both Q h k y_axis = k

-- between the edges of r along an axis
abbrev pub Along : Rect → Place → Axis → Type 0
Along r p axis = (low_edge axis r ≤ℤ coordinate axis p) × (coordinate axis p ≤ℤ high_edge axis r)

pub along : {r : Rect} {p : Place} → In r p → (axis : Axis) → Along r p axis
along h x_axis = (h.left, h.right)
along h y_axis = (h.front, h.back)

pub along_in : (r : Rect) (p : Place) → ((axis : Axis) → Along r p axis) → In r p
along_in r p h = record { left = (h x_axis).0; right = (h x_axis).1; front = (h y_axis).0; back = (h y_axis).1 }

pub edges_in : {r : Rect} → NonEmpty r → (axis : Axis) → low_edge axis r ≤ℤ high_edge axis r
edges_in h x_axis = h.across
edges_in h y_axis = h.deep

pub edges_non_empty : (r : Rect) → ((axis : Axis) → low_edge axis r ≤ℤ high_edge axis r) → NonEmpty r
edges_non_empty r h = record { across = h x_axis; deep = h y_axis }

pub place_eq : (p q : Place) → ((axis : Axis) → coordinate axis p ≡ coordinate axis q) → p ≡ q
place_eq p q h = λ i. record { x = h x_axis i; y = h y_axis i }

-- ---- the axis beside another
unfoldable pub other : Axis → Axis
other x_axis = y_axis
other y_axis = x_axis

-- what holds of the cut axis and of the other one holds of both
pub cut_or_other : (Q : Axis → Type 0) (cut : Axis) → Q cut → Q (other cut) → (axis : Axis) → Q axis
unfolding other
cut_or_other Q x_axis h k = for_both Q h k
cut_or_other Q y_axis h k = for_both Q k h

-- ---- moving along an axis
-- the place whose coordinate along an axis is v, and p's along the other
abbrev pub moved : Axis → ℤ → Place → Place
moved x_axis v p = record { x = v; y = p.y }
moved y_axis v p = record { x = p.x; y = v }

pub moved_self : (axis : Axis) (p : Place) → moved axis (coordinate axis p) p ≡ p
moved_self x_axis p = refl
moved_self y_axis p = refl

pub moved_in : (axis : Axis) (r : Rect) (p : Place) (v : ℤ) → In r p → low_edge axis r ≤ℤ v → v ≤ℤ high_edge axis r → In r (moved axis v p)
moved_in x_axis r p v h k l = record { left = k; right = l; front = h.front; back = h.back }
moved_in y_axis r p v h k l = record { left = h.left; right = h.right; front = k; back = l }
