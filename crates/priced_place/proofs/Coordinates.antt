-- Coordinates, rectangles and places in signed 64-bit words, and priced places.
use mathlib.Core.Path.{◌≡◌}
use Prim.Native.Nat.{◌≤◌}
use native.Mathlib.Omega.{arith}
use lib.IntN.{ℤ, nat_abs}
use mir.Syntax.{w64}
use mir.ValLaws.{to_z-of_z}
use Rattle.numbers.proofs.Words.{word_fits}
use Rattle.numbers.proofs.WordTests.{back}
use Rattle.query.specs.Place.{Rect}
use Rattle.query.specs.Range.{PlaceInRange, RectInRange, coordinate_limit}
use Rattle.columns.specs.Objects.{Pricing}
use Rattle.priced_place.specs.declared.PricedPlace.{PricedPlace}
use Rattle.priced_place.specs.ObjectProblem.{priced_place_of}

pub near_back : (z : ℤ) → nat_abs z ≤ coordinate_limit → back z ≡ z
near_back z h = to_z-of_z w64 z (word_fits w64 z (omega arith))

pub rect_back : (r : Rect) → RectInRange r →
    record { xlo = back r.xlo; ylo = back r.ylo; xhi = back r.xhi; yhi = back r.yhi } ≡ r
rect_back r h = λ i. record {
  xlo = near_back r.xlo h.low_corner_law.x_range i;
  ylo = near_back r.ylo h.low_corner_law.y_range i;
  xhi = near_back r.xhi h.high_corner_law.x_range i;
  yhi = near_back r.yhi h.high_corner_law.y_range i;
}

pub priced_back : (P : Pricing) (x y : ℤ) (r : PricedPlace) → nat_abs x ≤ coordinate_limit → nat_abs y ≤ coordinate_limit →
    r ≡ priced_place_of P (record { x = back x; y = back y }) → r ≡ priced_place_of P (record { x = x; y = y })
priced_back P x y r h k e = rw (near_back x h, near_back y k) at e

pub near_places : (x y : ℤ) → nat_abs x ≤ coordinate_limit → nat_abs y ≤ coordinate_limit → PlaceInRange (record { x = back x; y = back y })
near_places x y h k = rw (near_back x h, near_back y k) (record { x_range = h; y_range = k })
