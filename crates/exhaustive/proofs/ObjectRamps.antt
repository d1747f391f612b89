-- The ramps of one object more: what the object pays along a vertical line.
use mathlib.Core.Path.{◌≡◌, ap}
use mathlib.Core.List.{List}
use Prim.Native.Nat.{ℕ, ◌+◌, ◌*◌, ◌-◌, ◌≤◌, ◌<◌, min}
use native.Mathlib.Omega.{arith}
use lib.IntN.{ℤ, pos, nat_abs, ◌+ℤ◌, ◌-ℤ◌}
use lib.ListN.{get_or}
use mir.Syntax.{w64}
use mir.Val.{to_z}
use mir.ValLaws.{to_z-of_z, to_z_pos}
use Rattle.numbers.specs.Integer.{dist}
use Rattle.numbers.proofs.Integer.{add_nat, sub_nat, sum_abs, sub_abs}
use Rattle.numbers.proofs.Words.{word_fits}
use Rattle.reach.specs.Columns.{ObjectInRange}
use Rattle.numbers.proofs.WordTests.{back}
use Rattle.query.specs.Range.{travel_limit}
use Rattle.columns.specs.Ranges.{scaled_limit}
use Rattle.exhaustive.specs.declared.ramp_sums.Ramps.{Ramps}
use Rattle.exhaustive.specs.declared.ramp_sums.ObjectRamps.{ObjectRamps}
use Rattle.exhaustive.specs.Ramps.{height_of, RampSums, RampInRange, RampAdded, ObjectAdded, start_limit}
use Rattle.exhaustive.proofs.Heights.{height_nat, height_least, height_dist}
use Rattle.exhaustive.proofs.ScaledLines.{ScaledInRange}

-- ---- sums of at most m ramps
pub sums_more : {r : Ramps} (m k : ℕ) → RampSums r m → m ≤ k → RampSums r k
sums_more m k s h = record {
  weights_long = s.weights_long;
  starts_long = s.starts_long;
  weights_most = λ i. omega (arith, s.weights_most i);
  starts_most = λ i. omega (arith, s.starts_most i);
}

pub small_back : (z : ℤ) → nat_abs z ≤ start_limit → back z ≡ z
small_back z h = to_z-of_z w64 z (word_fits w64 z (omega arith))

-- ---- an object whose near is d + r, and whose height is s
ramp_sum : (near d r s t : ℕ) → near ≡ d + r → r ≤ s → min near (d + ((s - t) + (t - s))) + (t - (s - r)) + (t - (s + r)) ≡ near + 2 * (t - s)
ramp_sum near d r s t e h = omega arith

module _ (v sx sy : ℤ) (visits near d : ℕ) (g : nat_abs v ≤ scaled_limit) (object : ObjectInRange sx sy (pos visits) (pos near))
    (e : d ≡ dist (back sx) (back v)) where
  sx_back : back sx ≡ sx
  sx_back = small_back sx (omega (arith, object.place.x_range))

  pub sy_back : back sy ≡ sy
  sy_back = small_back sy (omega (arith, object.place.y_range))

  d_is : d ≡ dist sx v
  d_is = rw (sx_back, small_back v (omega arith)) at e

  abbrev r : ℕ
  r = near - d

  r_word : to_z w64 r ≡ pos r
  r_word = to_z_pos w64 r (omega (arith, object.near_range))

  low_is : back sy -ℤ to_z w64 r ≡ sy -ℤ pos r
  low_is = rw (sy_back, r_word)

  high_is : back sy +ℤ to_z w64 r ≡ sy +ℤ pos r
  high_is = rw (sy_back, r_word)

  low_abs : nat_abs (sy -ℤ pos r) ≤ start_limit
  low_abs = omega (arith, sub_abs sy (pos r) scaled_limit travel_limit object.place.y_range (omega (arith, object.near_range)))

  high_abs : nat_abs (sy +ℤ pos r) ≤ start_limit
  high_abs = omega (arith, sum_abs sy (pos r) scaled_limit travel_limit object.place.y_range (omega (arith, object.near_range)))

  low_start : back (back sy -ℤ to_z w64 r) ≡ sy -ℤ pos r
  low_start = rw low_is (small_back (sy -ℤ pos r) low_abs)

  high_start : back (back sy +ℤ to_z w64 r) ≡ sy +ℤ pos r
  high_start = rw high_is (small_back (sy +ℤ pos r) high_abs)

  pub high_range : RampInRange (back (back sy +ℤ to_z w64 r)) visits
  high_range = rw high_start (record { start_range = high_abs; weight_range = omega (arith, object.visits_range) })

  pub middle_range : RampInRange (back sy) (2 * visits)
  middle_range = rw sy_back (record { start_range = omega (arith, object.place.y_range); weight_range = omega (arith, object.visits_range) })

  low_height : height_of (sy -ℤ pos r) ≡ height_of sy - r
  low_height =
      omega (
        arith,
        height_nat (sy -ℤ pos r) (omega (arith, low_abs)),
        height_nat sy (omega (arith, object.place.y_range)),
        sub_nat sy (pos r),
        height_least sy scaled_limit object.place.y_range (omega arith),
        object.near_range,
      )

  high_height : height_of (sy +ℤ pos r) ≡ height_of sy + r
  high_height = omega (arith, height_nat (sy +ℤ pos r) (omega (arith, high_abs)), height_nat sy (omega (arith, object.place.y_range)), add_nat sy (pos r))

  -- what the object pays at a line
  module _ (y : ℤ) (h : nat_abs y ≤ scaled_limit) (l : d < near) where
    paid_ramps : min near (dist sx v + dist sy y) + (height_of y - height_of (sy -ℤ pos r)) + (height_of y - height_of (sy +ℤ pos r)) ≡ near + 2 *
        (height_of y - height_of sy)
    paid_ramps =
        rw (low_height, high_height, height_dist sy y (omega (arith, object.place.y_range)) (omega arith))
        (ramp_sum near (dist sx v) r (height_of sy) (height_of y) (omega (arith, d_is))
        (omega (arith, height_least sy scaled_limit object.place.y_range (omega arith), object.near_range)))

    times : (m a b k : ℕ) → m + a + b ≡ near + 2 * k → visits * m + visits * a + visits * b ≡ visits * near + (2 * visits) * k
    times m a b k q = omega (arith, ap (λ (z : ℕ). visits * z) q)

    pub paid_times : visits * min near (dist sx v + dist sy y) + visits * (height_of y - height_of (sy -ℤ pos r)) + visits *
        (height_of y - height_of (sy +ℤ pos r)) ≡ visits * near + (2 * visits) * (height_of y - height_of sy)
    paid_times = times _ _ _ _ paid_ramps

  module _ (ls : List ℤ) (lines : ScaledInRange ls) where
    pub object_none : (old : ObjectRamps) → near ≤ d → ObjectAdded ls v sx sy visits near old old
    object_none old h = record {
      sums = λ m s. record {
        up_sums = sums_more m (m + 1) s.up_sums (omega arith);
        down_sums = sums_more (2 * m) (2 * (m + 1)) s.down_sums (omega arith);
      };
      added = λ j k. same (min near (dist sx v + dist sy (get_or ls j (pos 0)))) _ _ (omega (arith, d_is));
    }
      where
        same : (m a b : ℕ) → m ≡ near → visits * m + a + b ≡ visits * near + b + a
        same m a b q = rw q (omega arith)

    -- the parts change one after another: those that lower it, those that raise it, those that lower it
    pub object_added : (old new : ObjectRamps) (down₁ : Ramps) → d < near
        → RampAdded ls (back (back sy -ℤ to_z w64 r)) visits old.down down₁ → RampAdded ls (back sy) (2 * visits) old.up new.up
        → RampAdded ls (back (back sy +ℤ to_z w64 r)) visits down₁ new.down → ObjectAdded ls v sx sy visits near old new
    object_added old new down₁ h low middle high = record {
      sums = λ m s. record {
        up_sums = middle.sums m s.up_sums;
        down_sums = sums_more (2 * m + 1 + 1) (2 * (m + 1)) (high.sums (2 * m + 1) (low.sums (2 * m) s.down_sums)) (omega arith);
      };
      added = λ j k. omega (
        arith,
        (rw low_start at low).added j k,
        (rw sy_back at middle).added j k,
        (rw high_start at high).added j k,
        paid_times (get_or ls j (pos 0)) (lines.range j k) h,
      );
    }
