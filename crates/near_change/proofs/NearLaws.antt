-- Travel and near as the code finds them: between two places, by one more post, and over the stops one after another.
use mathlib.Core.Path.{◌≡◌, sym, ap, ap₂, subst, ◌∙◌}
use mathlib.Core.List.{List, zip_with}
use Prim.Native.Nat.{ℕ, ◌+◌, ◌*◌, ◌≤◌, ◌<◌}
use native.Mathlib.Nat.{mul-le-mul}
use native.Mathlib.Omega.{arith}
use lib.IntN.{ℤ}
use lib.ListN.{length, get_or, set}
use Rattle.numbers.specs.Integer.{dist}
use Rattle.numbers.proofs.Distance.{dist_most}
use Rattle.numbers.proofs.WordTests.{back}
use Rattle.query.specs.Place.{Place}
use Rattle.query.specs.Deck.{AxisCosts}
use Rattle.query.specs.Travel.{travel}
use Rattle.query.specs.Range.{PlaceInRange, coordinate_limit, travel_limit}
use Rattle.deck.specs.Ranges.{CostsInRange}
use Rattle.deck.specs.declared.Stop.{Stop}
use Rattle.deck.specs.Values.{stop_of, no_stop}
use Rattle.columns.proofs.WordLaws.{wide}
use Rattle.columns.proofs.ClosestLaws.{zip_length, zip_at}
use Rattle.columns.proofs.CopyLaws.{Copied, copied_more, copied_next}

abbrev pub place_of : ℤ → ℤ → Place
place_of x y = record { x = x; y = y }

-- ---- travel between two places in range, of the distances that were found of words
module _ {axis : AxisCosts} {ux uy vx vy : ℤ} (costs : CostsInRange axis) (p : PlaceInRange (place_of ux uy)) (q : PlaceInRange (place_of vx vy)) where
  x_apart : dist (back ux) (back vx) ≡ dist ux vx
  x_apart = ap₂ dist (wide ux (omega (arith, p.x_range))) (wide vx (omega (arith, q.x_range)))

  y_apart : dist (back uy) (back vy) ≡ dist uy vy
  y_apart = ap₂ dist (wide uy (omega (arith, p.y_range))) (wide vy (omega (arith, q.y_range)))

  -- half of the longest travel along each axis
  pub x_cost : {d : ℕ} → d ≡ dist (back ux) (back vx) → 2 * (axis.a * d) ≤ travel_limit
  x_cost {d} e = omega (arith, mul-le-mul costs.most.0 (go (dist_most coordinate_limit ux vx p.x_range q.x_range)))
    where
      go : dist ux vx ≤ 2 * coordinate_limit → d ≤ 2 * coordinate_limit
      go h = omega (arith, e ∙ x_apart)

  pub y_cost : {d : ℕ} → d ≡ dist (back uy) (back vy) → 2 * (axis.b * d) ≤ travel_limit
  y_cost {d} e = omega (arith, mul-le-mul costs.most.1 (go (dist_most coordinate_limit uy vy p.y_range q.y_range)))
    where
      go : dist uy vy ≤ 2 * coordinate_limit → d ≤ 2 * coordinate_limit
      go h = omega (arith, e ∙ y_apart)

  pub travel_found : {d e : ℕ} → d ≡ dist (back ux) (back vx) → e ≡ dist (back uy) (back vy) →
      axis.a * d + axis.b * e ≡ travel axis (place_of ux uy) (place_of vx vy)
  unfolding travel
  travel_found f g = rw (f ∙ x_apart, g ∙ y_apart)

-- ---- near, stop after stop: each by its place and what was stored
module _ (f : Place → ℕ → ℕ) (near : List ℕ) (stops : List Stop) (g : length stops ≤ length near) where
  abbrev target : List ℕ
  target = zip_with (λ s n. f (stop_of s).at n) stops near

  abbrev Renewing : List ℕ → ℕ → Type 0
  Renewing to i = Copied near 0 target (length stops) to i

  target_long : length stops ≤ length target
  target_long = omega (arith, zip_length (λ s n. f (stop_of s).at n) stops near)

  pub renew_more : {to : List ℕ} {i : ℕ} → Renewing to i → i < length stops → {v : ℕ} →
      v ≡ f (stop_of (get_or stops i no_stop)).at (get_or to i 0) → Renewing (set to i v) (i + 1)
  renew_more {to} {i} so_far h {v} e =
      let z : 0 + i ≡ i = omega arith in
      let same : get_or to i 0 ≡ get_or near i 0 = ap (λ (m : ℕ). get_or to m 0) (sym z)
      ∙ copied_next near 0 target (length stops) so_far (omega arith) target_long 0 ∙ ap (λ (m : ℕ). get_or near m 0) z in
      subst (λ (m : ℕ). Renewing (set to m v) (i + 1)) z (copied_more near 0 target (length stops) v 0 (omega arith) target_long so_far h
      (e ∙ ap (f (stop_of (get_or stops i no_stop)).at) same
      ∙ sym (zip_at (λ s n. f (stop_of s).at n) no_stop 0 0 stops near i h (omega arith))))
