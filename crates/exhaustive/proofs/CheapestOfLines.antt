-- One vertical line after another: the ramps of a line, and the cheapest crossing over the lines.
use mathlib.Core.Path.{◌≡◌, refl, sym, ◌∙◌}
use mathlib.Core.List.{List, flat_map}
use Prim.Native.Nat.{ℕ, zero, suc, ◌+◌, ◌≤◌, ◌<◌}
use native.Mathlib.Omega.{arith}
use lib.IntN.{ℤ, pos}
use lib.ListN.{length, get_or, drop, replicate, length-replicate, length-map, drop_of_length-le}
use Rattle.numbers.specs.Integer.{times}
use Rattle.query.specs.Range.{cost_limit, stops_limit}
use Rattle.columns.specs.Objects.{Pricing}
use Rattle.pricing.specs.ObjectFigures.{before_of, Figure}
use Rattle.priced_place.specs.declared.PricedPlace.{PricedPlace}
use Rattle.numbers.proofs.WordTests.{back}
use Rattle.exhaustive.specs.declared.ramp_sums.Ramps.{Ramps}
use Rattle.exhaustive.specs.declared.ramp_sums.ObjectRamps.{ObjectRamps}
use Rattle.exhaustive.specs.Ramps.{scaled_lines, LinesInRange, RampSums, ObjectSums, ObjectsAdded, Sweepable, sums_size}
use Rattle.exhaustive.specs.Cheapest.{first_cheapest, along, costs_along, Swept}
use Rattle.exhaustive.proofs.ObjectRamps.{small_back}
use Rattle.exhaustive.proofs.AllObjects.{sums_few}
use Rattle.exhaustive.proofs.ChooseLaws.{next_line}
use Rattle.exhaustive.proofs.CheapestLaws.{cheapest_none, cheapest_append}

-- ---- no ramps
zeros : (n k : ℕ) → get_or {A = ℕ} (replicate n 0) k 0 ≡ 0
zeros zero k = refl
zeros (suc n) zero = refl
zeros (suc n) (suc k) = zeros n k

abbrev no_ramps : Ramps
no_ramps = record { weights = replicate sums_size 0; starts = replicate sums_size 0 }

zero_ramps : RampSums no_ramps 0
zero_ramps = record {
  weights_long = length-replicate {A = ℕ} sums_size 0;
  starts_long = length-replicate {A = ℕ} sums_size 0;
  weights_most = λ k. omega (arith, zeros sums_size k);
  starts_most = λ k. omega (arith, zeros sums_size k);
}

pub zero_sums : ObjectSums (record { up = no_ramps; down = no_ramps }) 0
zero_sums = record { up_sums = zero_ramps; down_sums = zero_ramps }

-- ---- the ramps of objects
module _ (P : Pricing) (m : ℕ) (ls : List ℤ) (v : ℤ) (r : ObjectRamps) (before : ℕ) (few : m ≤ stops_limit) (now : Figure (before_of P) cost_limit before)
    (added : ObjectsAdded P m ls v r) where
  pub sweepable : (b : ℕ) → b ≡ P.axis.b → Sweepable (scaled_lines b ls) r before
  sweepable b e = rw e (record {
    before_most = now.within;
    sums = sums_few m added.sums (omega arith);
    enough = λ j h. omega (arith, added.cost j (omega (arith, length-map ls (times P.axis.b))), now.is);
  })

  pub swept_line : (b : ℕ) (old costs : List ℕ) → P.axis.b ≡ b → Swept ls b r before old costs → costs ≡ costs_along P ls v old
  swept_line b old costs e s = s.is P m v e added now.is

-- ---- line after line
pub record Compared (P : Pricing) (hs vs : List ℤ) (first found : PricedPlace) (i : ℕ) : Type 0 where
  pub left : first_cheapest P first (flat_map (along hs) vs) ≡ first_cheapest P found (flat_map (along hs) (drop i vs))

module _ (P : Pricing) (hs vs : List ℤ) (first : PricedPlace) where
  pub compared_all : {found : PricedPlace} {i : ℕ} → Compared P hs vs first found i → length vs ≤ i → found ≡ first_cheapest P first (flat_map (along hs) vs)
  unfolding flat_map
  compared_all {found} {i} w h = sym (w.left ∙ rw (drop_of_length-le vs {i = i} h) (cheapest_none P found))

  pub compared_more : {found : PricedPlace} {i : ℕ} → LinesInRange vs → Compared P hs vs first found i → i < length vs → (found' : PricedPlace)
      → found' ≡ first_cheapest P found (along hs (back (get_or vs i (pos 0)))) → Compared P hs vs first found' (i + 1)
  unfolding flat_map
  compared_more {found} {i} lines w h found' b =
      let v = get_or vs i (pos 0) in
      let e : found' ≡ first_cheapest P found (along hs v) = rw (small_back v (omega (arith, lines.range i h))) at b in
      record {
        left = w.left ∙ rw (next_line vs i h, e) (cheapest_append P found (along hs v) (flat_map (along hs) (drop (i + 1) vs)));
      }
