-- The chord inequality: while a place moves along an axis past no stop within reach, its cost is concave.
use mathlib.Core.Path.{◌≡◌, refl, ap}
use mathlib.Core.Logic.{◌⊎◌, inl, inr, ⊎_elim}
use mathlib.Core.List.{Memᴰ}
use Prim.Native.Nat.{ℕ, ◌+◌, ◌*◌, ◌≤◌, min}
use native.Mathlib.Nat.{mul-le-mul_left}
use native.Mathlib.Omega.{arith}
use lib.Dec.{T, ltb, ltb→lt, nltb→le}
use lib.IntN.{ℤ}
use lib.Signed.{◌≤ℤ◌}
use Rattle.numbers.specs.Integer.{dist}
use Rattle.numbers.proofs.Truth.{test}
use Rattle.numbers.proofs.Integer.{order}
use Rattle.numbers.proofs.Distance.{dist_sym, dist_split}
use Rattle.numbers.proofs.Sums.{sum_of_linear}
use Rattle.query.specs.Place.{Place, In, Axis, x_axis, y_axis, coordinate}
use Rattle.query.specs.Deck.{AxisCosts, Stop, Deck}
use Rattle.query.specs.Travel.{travel, near}
use Rattle.query.specs.Cost.{cost}
use Rattle.query.specs.Reach.{reach}
use Rattle.query.proofs.Axes.{moved, moved_self}
use Rattle.query.proofs.CostLaws.{nreach_nat, paid, cost_sum}
use Rattle.query.proofs.Travel.{travel_to_least}

-- the two parts of travel: along an axis, and the rest
abbrev axis_cost : Axis → AxisCosts → ℕ
axis_cost x_axis costs = costs.a
axis_cost y_axis costs = costs.b

abbrev aside : Axis → AxisCosts → Place → Place → ℕ
aside x_axis costs p q = costs.b * dist p.y q.y
aside y_axis costs p q = costs.a * dist p.x q.x

-- travel to a place moved along an axis
travel_moved : (axis : Axis) (costs : AxisCosts) (s p : Place) (v : ℤ) →
    travel costs s (moved axis v p) ≡ axis_cost axis costs * dist (coordinate axis s) v + aside axis costs s p
unfolding travel
travel_moved x_axis costs s p v = refl
travel_moved y_axis costs s p v = omega arith

-- distance is linear between lo and hi, seen from a number that is not strictly between them
seen : (α β near mid far : ℕ) → mid ≡ near + β → far ≡ near + (β + α) → α * near + β * far ≡ (β + α) * mid
seen α β near mid far e f = rw (e, f) (omega arith)

dist_linear : (s lo c hi : ℤ) → lo ≤ℤ c → c ≤ℤ hi → (s ≤ℤ lo) ⊎ (hi ≤ℤ s) → dist c hi * dist s lo + dist lo c * dist s hi ≡ (dist lo c + dist c hi) * dist s c
dist_linear s lo c hi h k (inl t) = seen (dist c hi) (dist lo c) (dist s lo) (dist s c) (dist s hi) (omega (arith, dist_split s lo c t h))
    (omega (arith, dist_split s lo hi t (omega (arith, order)), dist_split lo c hi h k))
dist_linear s lo c hi h k (inr t) =
    let away = dist_split c hi s k t in
    omega (
      arith,
      seen (dist lo c) (dist c hi) (dist s hi) (dist s c) (dist s lo) (omega (arith, dist_sym s c, dist_sym s hi))
          (omega (arith, dist_split lo c s h (omega (arith, order)), dist_sym s lo, dist_sym s hi)),
    )

-- and so is travel
travel_linear : (axis : Axis) (costs : AxisCosts) (s p : Place) (lo hi : ℤ) → lo ≤ℤ coordinate axis p → coordinate axis p ≤ℤ hi →
    (coordinate axis s ≤ℤ lo) ⊎ (hi ≤ℤ coordinate axis s)
    → dist (coordinate axis p) hi * travel costs s (moved axis lo p) + dist lo (coordinate axis p) * travel costs s (moved axis hi p) ≡
    (dist lo (coordinate axis p) + dist (coordinate axis p) hi) * travel costs s p
travel_linear axis costs s p lo hi h k side = rw (
  travel_moved axis costs s p lo,
  travel_moved axis costs s p hi,
  rw moved_self at (travel_moved axis costs s p (coordinate axis p)),
)
    (omega (arith, ap (λ n. axis_cost axis costs * n) (dist_linear (coordinate axis s) lo (coordinate axis p) hi h k side)))

-- what a stop adds to the cost is concave, whether it is out of reach or its travel is linear
min_concave : (α β v n u t w : ℕ) → (n ≤ t) ⊎ (α * u + β * w ≡ (β + α) * t) → α * (v * min n u) + β * (v * min n w) ≤ (β + α) * (v * min n t)
min_concave α β v n u t w h =
    omega (
      arith,
      mul-le-mul_left v (⊎_elim out (λ e. ⊎_elim (λ b. out (omega (arith, ltb→lt)))
          (λ b. go u w t (omega arith) (omega arith) (omega (arith, nltb→le)) (omega arith)) (test (ltb n t))) h),
    )
  where
    go : (d e m : ℕ) → min n u ≤ d → min n w ≤ e → m ≤ min n t → α * d + β * e ≤ (β + α) * m → α * min n u + β * min n w ≤ (β + α) * min n t
    go d e m p q r s = omega (arith, mul-le-mul_left α p, mul-le-mul_left β q, mul-le-mul_left (β + α) r)

    out : n ≤ t → α * min n u + β * min n w ≤ (β + α) * min n t
    out k = go n n n (omega arith) (omega arith) (omega arith) (omega arith)

-- what is needed of a line: no stop within reach of the area has its coordinate strictly between lo and hi
abbrev pub Free : Deck → Axis → ℤ → ℤ → Type 0
Free deck axis lo hi = (stop : Stop) → Memᴰ stop deck.stops → T (reach deck deck.area stop) →
    (coordinate axis stop.at ≤ℤ lo) ⊎ (hi ≤ℤ coordinate axis stop.at)

-- from the paper's proof of its Theorem 2: cost is concave between lo and hi
pub chord : (deck : Deck) (axis : Axis) (p : Place) (lo hi : ℤ) → In deck.area p → lo ≤ℤ coordinate axis p → coordinate axis p ≤ℤ hi → Free deck axis lo hi
    → dist (coordinate axis p) hi * cost deck (moved axis lo p) + dist lo (coordinate axis p) * cost deck (moved axis hi p) ≤
    (dist lo (coordinate axis p) + dist (coordinate axis p) hi) * cost deck p
chord deck axis p lo hi within h k free =
    rw (cost_sum deck p, cost_sum deck (moved axis lo p), cost_sum deck (moved axis hi p))
    (omega (arith, sum_of_linear α β (β + α) 0 (paid deck (moved axis lo p)) (paid deck (moved axis hi p)) (paid deck p) (paid deck p) deck.stops each))
  where
    α : ℕ
    α = dist (coordinate axis p) hi

    β : ℕ
    β = dist lo (coordinate axis p)

    to : Stop → Place → ℕ
    to stop q = travel deck.axis stop.at q

    either : (stop : Stop) → Memᴰ stop deck.stops →
        (near deck stop ≤ to stop p) ⊎ (α * to stop (moved axis lo p) + β * to stop (moved axis hi p) ≡ (β + α) * to stop p)
    either stop m = ⊎_elim (λ t. inr (travel_linear axis deck.axis stop.at p lo hi h k (free stop m t)))
        (λ t. inl (omega (arith, nreach_nat deck deck.area stop t, travel_to_least deck deck.area stop p within))) (test (reach deck deck.area stop))

    each : (stop : Stop) → Memᴰ stop deck.stops →
        α * paid deck (moved axis lo p) stop + β * paid deck (moved axis hi p) stop ≤ (β + α) * paid deck p stop + 0 * paid deck p stop
    each stop m = omega (
      arith,
      min_concave α β stop.visits (near deck stop) (to stop (moved axis lo p)) (to stop p) (to stop (moved axis hi p))
          (either stop m),
    )
