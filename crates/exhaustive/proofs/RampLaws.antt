-- One ramp more.
use mathlib.Core.Path.{◌≡◌, refl, ◌∙◌}
use mathlib.Core.List.{List}
use mathlib.Core.Logic.{⊎_elim}
use Prim.Native.Nat.{ℕ, ◌+◌, ◌*◌, ◌-◌, ◌≤◌, ◌<◌}
use native.Mathlib.Nat.{mul-le-mul}
use native.Mathlib.Omega.{arith}
use lib.Dec.{ltb, ltb→lt, nltb→le}
use lib.IntN.{ℤ, pos, nat_abs}
use lib.ListN.{length, get_or, set, length-set}
use Rattle.numbers.proofs.Truth.{test}
use Rattle.lines.specs.LineRecord.{FirstAtLeast}
use Rattle.exhaustive.specs.declared.ramp_sums.Ramps.{Ramps}
use Rattle.exhaustive.specs.Ramps.{height_base, start_limit, height_limit, weight_limit, ramps_limit}
use Rattle.exhaustive.specs.Ramps.{height_of, prefix_sum, RampSums, RampInRange, RampPut, RampAdded}
use Rattle.exhaustive.proofs.Heights.{height_most, height_le, height_lt}
use Rattle.exhaustive.proofs.ScaledLines.{ScaledInRange}
use Rattle.exhaustive.proofs.Prefixes.{prefix_before, prefix_behind, set_each}

-- the numbers after a ramp is added at index k
abbrev pub raised_by : List ℕ → ℕ → ℕ → List ℕ
raised_by xs k w = set xs k (get_or xs k 0 + w)

pub ramp_weight : {start : ℤ} {w : ℕ} → RampInRange start w → w * height_of start ≤ (weight_limit * height_limit)
ramp_weight {start} range = omega (arith, mul-le-mul range.weight_range (height_most start start_limit range.start_range (omega arith)))

module _ (ls : List ℤ) (start : ℤ) (w k : ℕ) (old : Ramps) (lines : ScaledInRange ls) (range : RampInRange start w) (first : FirstAtLeast ls start k)
    (sums : RampSums old ramps_limit) where
  abbrev ws : List ℕ
  ws = old.weights

  abbrev us : List ℕ
  us = old.starts

  abbrev line : ℕ → ℕ
  line j = height_of (get_or ls j (pos 0))

  line_range : (j : ℕ) → j < length ls → nat_abs (get_or ls j (pos 0)) ≤ height_base
  line_range j h = omega (arith, lines.range j h)

  added : (j : ℕ) → j < length ls
      → prefix_sum (raised_by ws k w) (j + 1) * line j + prefix_sum us (j + 1)
      ≡ prefix_sum ws (j + 1) * line j + prefix_sum (raised_by us k (w * height_of start)) (j + 1) + w * (line j - height_of start)
  added j h = ⊎_elim (λ t. before (ltb→lt j k t)) (λ t. behind (nltb→le j k t)) (test (ltb j k))
    where
      flat : (a b t d : ℕ) → d ≡ 0 → a * t + b ≡ a * t + b + w * d
      flat a b t d e = rw e (omega arith)

      steep : (a b s d t : ℕ) → t ≡ s + d → (a + w) * t + b ≡ a * t + (b + w * s) + w * d
      steep a b s d t e = rw e (omega arith)

      before : j < k → prefix_sum (raised_by ws k w) (j + 1) * line j + prefix_sum us (j + 1)
          ≡ prefix_sum ws (j + 1) * line j + prefix_sum (raised_by us k (w * height_of start)) (j + 1) + w * (line j - height_of start)
      before l =
          rw (prefix_before ws k (get_or ws k 0 + w) (j + 1) (omega arith), prefix_before us k (get_or us k 0 + w * height_of start) (j + 1) (omega arith))
          (flat _ _ _ _ (omega (arith, height_lt (get_or ls j (pos 0)) start (line_range j h) (omega (arith, range.start_range)) (first.before j l))))

      behind : k ≤ j → prefix_sum (raised_by ws k w) (j + 1) * line j + prefix_sum us (j + 1)
          ≡ prefix_sum ws (j + 1) * line j + prefix_sum (raised_by us k (w * height_of start)) (j + 1) + w * (line j - height_of start)
      behind l =
          rw (
            prefix_behind ws k (get_or ws k 0 + w) w (omega (arith, sums.weights_long, lines.few)) refl (j + 1) (omega arith),
            prefix_behind us k (get_or us k 0 + w * height_of start) (w * height_of start) (omega (arith, sums.starts_long, lines.few)) refl (j + 1)
                (omega arith),
          )
          (steep _ _ _ _ _ (omega (arith, height_le start (get_or ls j (pos 0)) (omega (arith, range.start_range)) (line_range j h) (first.after j l h))))

  pub put_added : {new : Ramps} → RampPut k start w old new → RampAdded ls start w old new
  put_added {new} p = record {
    sums = λ m s. record {
      weights_long = rw p.weights_are (length-set ws k _ ∙ s.weights_long);
      starts_long = rw p.starts_are (length-set us k _ ∙ s.starts_long);
      weights_most = rw p.weights_are (set_each (λ (z : ℕ). z ≤ (m + 1) * weight_limit) ws k _ (omega (arith, s.weights_most k, range.weight_range))
          (λ i. omega (arith, s.weights_most i)));
      starts_most = rw p.starts_are
          (set_each (λ (z : ℕ). z ≤ (m + 1) * (weight_limit * height_limit)) us k _ (omega (arith, s.starts_most k, ramp_weight range))
          (λ i. omega (arith, s.starts_most i)));
    };
    added = λ j h. rw (p.weights_are, p.starts_are) (added j h);
  }
