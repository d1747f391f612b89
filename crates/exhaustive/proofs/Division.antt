-- Division by an axis cost as a multiplication, and numbers divided upwards.
use mathlib.Core.Path.{◌≡◌, ap, ◌∙◌}
use Prim.Native.Nat.{ℕ, ◌+◌, ◌*◌, ◌-◌, ◌/◌, ◌≤◌, ◌<◌}
use native.Mathlib.Nat.{mul-le-mul, mul-le-mul_left, div-mul-le_self, lt-div-mul-add, lt_of_mul-lt-mul_right, div-eq_of_lt-le}
use native.Mathlib.Omega.{arith}
use Rattle.query.specs.Range.{axis_cost_limit}
use Rattle.exhaustive.specs.Ramps.{height_limit}

-- n / b is n × m / P, where P = 2 ^ 32, m = P / b + 1, and n and b are small
module _ (n b q r : ℕ) (some : 1 ≤ b) (most : b ≤ axis_cost_limit) (small : n ≤ height_limit) (q_le : q * b ≤ n) (q_lt : n < q * b + b)
    (r_le : r * b ≤ 4294967296) (r_lt : 4294967296 < r * b + b) where
  product_least : q * 4294967296 ≤ n * (r + 1)
  product_least = omega (arith, mul-le-mul_left q (let h : 4294967296 ≤ r * b + b = omega arith in h), mul-le-mul_left (r + 1) q_le)

  product_most : n * (r + 1) < (q + 1) * 4294967296
  product_most = lt_of_mul-lt-mul_right b (omega (arith, mul-le-mul_left n r_le, mul-le-mul small most))

pub divided_is : (n b m : ℕ) → 1 ≤ b → b ≤ axis_cost_limit → m ≡ 4294967296 / b + 1 → n ≤ height_limit → n * m / 4294967296 ≡ n / b
divided_is n b m some most e small =
    ap (λ (z : ℕ). n * z / 4294967296) e
    ∙ div-eq_of_lt-le 4294967296 (product_least n b (n / b) (4294967296 / b) some most small q_le q_lt r_le r_lt)
    (product_most n b (n / b) (4294967296 / b) some most small q_le q_lt r_le r_lt)
  where
    q_le : n / b * b ≤ n
    q_le = div-mul-le_self n b

    q_lt : n < n / b * b + b
    q_lt = lt-div-mul-add some

    r_le : 4294967296 / b * b ≤ 4294967296
    r_le = div-mul-le_self 4294967296 b

    r_lt : 4294967296 < 4294967296 / b * b + b
    r_lt = lt-div-mul-add some

-- the least multiple of b that is not below n
pub record Upwards (n b s : ℕ) : Type 0 where
  pub enough : n ≤ s * b
  pub least : s * b < n + b

pub divided_up : (n b s : ℕ) → 1 ≤ b → s ≡ (n + b - 1) / b → Upwards n b s
divided_up n b s some e =
    rw e (record {
      enough = omega (arith, lt-div-mul-add {a = n + b - 1} some);
      least = omega (arith, div-mul-le_self (n + b - 1) b);
    })
