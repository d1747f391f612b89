-- A sweep along a vertical line: after j lines the sums are those of the first j buckets, and the array holds the costs at these lines.
use mathlib.Core.Path.{◌≡◌, refl, sym, ◌∙◌}
use mathlib.Core.List.{List}
use Prim.Native.Nat.{ℕ, ◌+◌, ◌*◌, ◌^◌, ◌≤◌, ◌<◌}
use native.Mathlib.Omega.{arith}
use lib.IntN.{ℤ, pos, nat_abs}
use lib.ListN.{length, get_or, set, length-set, length-map}
use Rattle.columns.specs.Objects.{Pricing}
use Rattle.pricing.specs.ObjectFigures.{cost_of, before_of}
use Rattle.numbers.specs.Integer.{times}
use Rattle.numbers.proofs.Scaling.{scaled_at}
use Rattle.query.specs.Range.{stops_limit, axis_cost_limit}
use Rattle.columns.specs.Ranges.{scaled_limit}
use Rattle.lines.specs.LineRecord.{lines_limit}
use Rattle.exhaustive.specs.declared.ramp_sums.Ramps.{Ramps}
use Rattle.exhaustive.specs.declared.ramp_sums.ObjectRamps.{ObjectRamps}
use Rattle.exhaustive.specs.declared.ramp_sums.RunningSums.{RunningSums}
use Rattle.exhaustive.specs.Ramps.{height_of, prefix_sum, scaled_lines, LinesInRange, RampSums, ObjectSums, raised_at, lowered_at}
use Rattle.exhaustive.specs.Ramps.{ObjectsAdded, SumsTo, Payable, Sweepable, height_limit, weight_limit, sums_size}
use Rattle.exhaustive.specs.Cheapest.{Swept}
use Rattle.exhaustive.proofs.Heights.{height_most}
use Rattle.exhaustive.proofs.Prefixes.{prefix_none, prefix_more, prefix_most}
use Rattle.exhaustive.proofs.ObjectRamps.{sums_more}
use Rattle.exhaustive.proofs.ScaledLines.{scaled_line}
use Rattle.exhaustive.proofs.CostsAlong.{costs_to, costs_none, costs_more, costs_all}

-- ---- the sums stay small
module _ {r : Ramps} (sums : RampSums r (2 * stops_limit)) (n : ℕ) (h : n ≤ sums_size) where
  pub weights_cap : prefix_sum r.weights n ≤ 2 ^ 40
  weights_cap = omega (arith, prefix_most r.weights (2 * stops_limit * weight_limit) (λ k. sums.weights_most k) n)

  pub starts_cap : prefix_sum r.starts n ≤ 2 ^ 60
  starts_cap = omega (arith, prefix_most r.starts (2 * stops_limit * (weight_limit * height_limit)) (λ k. sums.starts_most k) n)

pub sums_none : (r : ObjectRamps) → SumsTo r 0 (record { up = 0; up_at = 0; down = 0; down_at = 0 })
sums_none r = record {
  up_is = sym (prefix_none r.up.weights);
  up_at_is = sym (prefix_none r.up.starts);
  down_is = sym (prefix_none r.down.weights);
  down_at_is = sym (prefix_none r.down.starts);
}

-- one line more
module _ {r : ObjectRamps} {k : ℕ} {s : RunningSums} (to : SumsTo r k s) (sums : ObjectSums r stops_limit) (few : k < sums_size) where
  pub up_next : s.up + get_or r.up.weights k 0 ≡ prefix_sum r.up.weights (k + 1)
  up_next = omega (arith, prefix_more r.up.weights k, to.up_is)

  pub up_at_next : s.up_at + get_or r.up.starts k 0 ≡ prefix_sum r.up.starts (k + 1)
  up_at_next = omega (arith, prefix_more r.up.starts k, to.up_at_is)

  pub down_next : s.down + get_or r.down.weights k 0 ≡ prefix_sum r.down.weights (k + 1)
  down_next = omega (arith, prefix_more r.down.weights k, to.down_is)

  pub down_at_next : s.down_at + get_or r.down.starts k 0 ≡ prefix_sum r.down.starts (k + 1)
  down_at_next = omega (arith, prefix_more r.down.starts k, to.down_at_is)

  pub up_small : s.up + get_or r.up.weights k 0 ≤ 2 ^ 40
  up_small = rw up_next (weights_cap (sums_more stops_limit (2 * stops_limit) sums.up_sums (omega arith)) (k + 1) (omega arith))

  pub up_at_small : s.up_at + get_or r.up.starts k 0 ≤ 2 ^ 60
  up_at_small = rw up_at_next (starts_cap (sums_more stops_limit (2 * stops_limit) sums.up_sums (omega arith)) (k + 1) (omega arith))

  pub down_small : s.down + get_or r.down.weights k 0 ≤ 2 ^ 40
  down_small = rw down_next (weights_cap sums.down_sums (k + 1) (omega arith))

  pub down_at_small : s.down_at + get_or r.down.starts k 0 ≤ 2 ^ 60
  down_at_small = rw down_at_next (starts_cap sums.down_sums (k + 1) (omega arith))

-- ---- the loop
pub record Sweeping (ls : List ℤ) (cost : ℕ) (r : ObjectRamps) (before : ℕ) (old costs : List ℕ) (s : RunningSums) (j : ℕ) : Type 0 where
  pub long : length costs ≡ length old
  pub sums : SumsTo r j s
  pub written : (P : Pricing) (m : ℕ) (v : ℤ) → P.axis.b ≡ cost → ObjectsAdded P m ls v r → before ≡ before_of P → costs ≡ costs_to P ls v old j

module _ (ls : List ℤ) (cost : ℕ) (r : ObjectRamps) (before : ℕ) (old : List ℕ) where
  pub sweep_none : Sweeping ls cost r before old old (record { up = 0; up_at = 0; down = 0; down_at = 0 }) 0
  sweep_none = record { long = refl; sums = sums_none r; written = λ P m v q a e. sym (costs_none P ls v old) }

  pub sweep_all : {costs : List ℕ} {s : RunningSums} {j : ℕ} → Sweeping ls cost r before old costs s j → j ≡ length ls → Swept ls cost r before old costs
  sweep_all {j = j} s h = record { is = λ P m v q added f. s.written P m v q added f ∙ costs_all P ls v old j h }

  module _ (most : cost ≤ axis_cost_limit) (lines : LinesInRange ls) (ok : Sweepable (scaled_lines cost ls) r before) {j : ℕ} (h : j < length ls)
      {s : RunningSums} (to : SumsTo r (j + 1) s) where
    abbrev y : ℤ
    y = get_or ls j (pos 0)

    few : j + 1 ≤ sums_size
    few = omega (arith, lines.in_order.few)

    abbrev z : ℤ
    z = times cost y

    pub z_small : nat_abs z ≤ scaled_limit
    z_small = scaled_line cost most ls lines j h

    enough : prefix_sum r.down.weights (j + 1) * height_of z + prefix_sum r.up.starts (j + 1)
        ≤ before + (prefix_sum r.up.weights (j + 1) * height_of z + prefix_sum r.down.starts (j + 1))
    enough = rw (scaled_at cost ls j) at (ok.enough j (omega (arith, length-map ls (times cost))))

    at_line : (k m n : ℕ) → k ≡ cost → m + lowered_at (scaled_lines k ls) r j ≡ n + raised_at (scaled_lines k ls) r j
        → m + (prefix_sum r.down.weights (j + 1) * height_of z + prefix_sum r.up.starts (j + 1))
        ≡ n + (prefix_sum r.up.weights (j + 1) * height_of z + prefix_sum r.down.starts (j + 1))
    at_line k m n q e = rw (q, scaled_at cost ls j) at e

    module _ (t : ℕ) (t-is : t ≡ height_of z) where
      pub payable : Payable before s t
      payable = record {
        before_small = omega (arith, ok.before_most);
        up_small = rw to.up_is (weights_cap (sums_more stops_limit (2 * stops_limit) ok.sums.up_sums (omega arith)) (j + 1) few);
        up_at_small = rw to.up_at_is (starts_cap (sums_more stops_limit (2 * stops_limit) ok.sums.up_sums (omega arith)) (j + 1) few);
        down_small = rw to.down_is (weights_cap ok.sums.down_sums (j + 1) few);
        down_at_small = rw to.down_at_is (starts_cap ok.sums.down_sums (j + 1) few);
        height_small = omega (arith, t-is, height_most z scaled_limit z_small (omega arith));
        enough = rw (t-is, to.up_is, to.up_at_is, to.down_is, to.down_at_is) enough;
      }

      module _ (price : ℕ) (q : price + (s.down * t + s.up_at) ≡ before + (s.up * t + s.down_at)) where
        balance : price + (prefix_sum r.down.weights (j + 1) * height_of z + prefix_sum r.up.starts (j + 1))
            ≡ before + (prefix_sum r.up.weights (j + 1) * height_of z + prefix_sum r.down.starts (j + 1))
        balance = rw (t-is, to.up_is, to.up_at_is, to.down_is, to.down_at_is) at q

        price_is : (P : Pricing) (m : ℕ) (v : ℤ) → P.axis.b ≡ cost → ObjectsAdded P m ls v r → before ≡ before_of P →
            price ≡ cost_of P (record { x = v; y = y })
        price_is P m v b added f = omega (arith, balance, at_line P.axis.b _ _ b (added.cost j h), f)

        pub sweep_more : {costs : List ℕ} {s₀ : RunningSums} → Sweeping ls cost r before old costs s₀ j → length old ≡ lines_limit
            → Sweeping ls cost r before old (set costs j price) s (j + 1)
        sweep_more {costs} so_far l = record {
          long = simp length-set so_far.long;
          sums = to;
          written =
              λ P m v b added f. costs_more P ls v old j price h (omega (arith, lines.in_order.few)) (so_far.written P m v b added f)
              (price_is P m v b added f);
        }
