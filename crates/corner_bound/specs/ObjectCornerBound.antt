-- Load and corner bound (RULES "Corner bound") of objects at scaled places, and what the corner bound stays within.
use Rattle.std.specs.Prelude.{ℕ, ◌+◌, ◌*◌, ◌≤◌, ◌≡◌, max, ℤ, pos, nat_abs, ◌-ℤ◌}
use Rattle.numbers.specs.Integer.{half_up}
use Rattle.numbers.specs.Lists.{sum_of, keep}
use Rattle.query.specs.Place.{Rect}
use Rattle.query.specs.CornerBound.{span}
use Rattle.query.specs.Range.{cost_limit}
use Rattle.columns.specs.Objects.{Pricing}
use Rattle.reach.specs.ObjectReach.{reaches}
use Rattle.pricing.specs.ObjectFigures.{cost_of}

-- the visits of all objects within reach
unfoldable pub load_of : Pricing → Rect → ℕ
unfolding sum_of keep reaches
load_of P r = sum_of (λ s. s.visits) (keep (reaches P r) P.objects)

-- the costs of two opposite corners together, of the dearer diagonal
unfoldable pub corner_sum_of : Pricing → Rect → ℕ
unfolding cost_of
corner_sum_of P r = max (cost_of P (record { x = r.xlo; y = r.ylo }) + cost_of P (record { x = r.xhi; y = r.yhi }))
    (cost_of P (record { x = r.xlo; y = r.yhi }) + cost_of P (record { x = r.xhi; y = r.ylo }))

-- half of that less span × load, rounded towards plus infinity
unfoldable pub corner_bound_of : Pricing → Rect → ℤ
unfolding half_up corner_sum_of span load_of
corner_bound_of P r = half_up (pos (corner_sum_of P r) -ℤ pos (span P.axis r * load_of P r))

-- a result r that is a corner bound, which stays within the limit of costs on both sides of 0
pub record CornerBound (bound r : ℤ) : Type 0 where
  pub is : r ≡ bound
  pub within : nat_abs r ≤ cost_limit
