-- The estimate by numbers of lines, as the code works it out, and that of a deck.
use Prim.Native.Nat.{ℕ, ◌+◌, ◌-◌, ◌*◌, ◌≤◌, ◌<◌, min, max}
use mathlib.Core.Path.{◌≡◌}
use native.Mathlib.Nat.{mul-le-mul}
use native.Mathlib.Omega.{arith}
use lib.ListN.{length}
use Rattle.query.specs.Place.{x_axis, y_axis}
use Rattle.query.specs.Deck.{Deck}
use Rattle.query.specs.Lines.{lines, gaps}
use Rattle.query.specs.Range.{stops_limit}
use Rattle.query.specs.Estimate.{cut_limit, cells_needed, estimate}
use Rattle.lines.proofs.DeckLines.{deck_lined}
use Rattle.estimate.specs.LineCounts.{LineCounts, gaps_by, estimate_by}

-- the largest product of gaps
abbrev pub most_product : ℕ
most_product = (stops_limit + 1) * (stops_limit + 1)

module _ (nv nh rounds : ℕ) (h : LineCounts nv nh rounds) (g k : ℕ) (e : g ≡ gaps_by nv) (f : k ≡ gaps_by nh) where
  pub product_most : g * k ≤ most_product
  product_most = omega (arith, mul-le-mul most_across most_deep)
    where
      most_across : g ≤ stops_limit + 1
      most_across = omega (arith, h.vertical)

      most_deep : k ≤ stops_limit + 1
      most_deep = omega (arith, h.horizontal)

  pub product_some : 1 ≤ g * k
  product_some = omega (arith, mul-le-mul some_across some_deep)
    where
      some_across : 1 ≤ g
      some_across = omega arith

      some_deep : 1 ≤ k
      some_deep = omega arith

  pub counted : (cells : ℕ) → cells ≡ min (rounds + 1) (g * k) →
      record { across = g; deep = k; limit = g * k - 1; cells = cells } ≡ estimate_by nv nh rounds
  unfolding estimate_by
  counted cells c = rw (c, e, f)

-- by the numbers of a deck's lines it is the deck's
pub deck_counted : (deck : Deck) (rounds nv nh : ℕ) → nv ≡ length (lines deck x_axis) → nh ≡ length (lines deck y_axis) →
    estimate_by nv nh rounds ≡ estimate deck rounds
unfolding estimate_by estimate cut_limit cells_needed gaps
deck_counted deck rounds nv nh e f = rw (e, f)

-- and its numbers are small where the deck's stops are few
pub deck_small : (deck : Deck) (rounds : ℕ) → length deck.stops ≤ stops_limit → let e = estimate deck rounds in
    (e.across ≤ stops_limit + 1) × (e.deep ≤ stops_limit + 1) × (e.limit < most_product) × (e.cells ≤ most_product)
unfolding estimate cut_limit cells_needed gaps
deck_small deck rounds h =
    let lined = deck_lined deck h in
    let across : max 1 (length (lines deck x_axis) - 1) ≤ stops_limit + 1 = omega (arith, lined.across.few) in
    let deep : max 1 (length (lines deck y_axis) - 1) ≤ stops_limit + 1 = omega (arith, lined.deep.few) in
    let product = mul-le-mul across deep in
    (across, deep, omega (arith, product), omega (arith, product))
