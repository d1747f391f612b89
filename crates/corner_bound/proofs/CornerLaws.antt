-- The corner bound of objects, one step at a time, as that of the deck whose objects they are, and as the code computes it.
use mathlib.Core.Path.{◌≡◌, refl, sym, ap, ◌∙◌}
use Prim.Native.Nat.{ℕ, ◌+◌, ◌*◌, ◌≤◌, max}
use native.Mathlib.Omega.{arith}
use lib.IntN.{ℤ, pos, nat_abs, ◌-ℤ◌}
use mir.Syntax.{w64}
use mir.Val.{to_z, of_z}
use mir.ValLaws.{to_z-of_z}
use Rattle.numbers.specs.Integer.{half_up}
use Rattle.numbers.proofs.Integer.{half_sub_abs}
use Rattle.numbers.proofs.Words.{word_fits, result_is, difference, difference_fits}
use Rattle.query.specs.Place.{Rect}
use Rattle.query.specs.Deck.{Deck}
use Rattle.query.specs.CornerBound.{span, corner_sum, corner_bound}
use Rattle.query.specs.Range.{cost_limit}
use Rattle.query.proofs.CornerBoundLaws.{corner_bound_is, corner_sum_is}
use Rattle.columns.specs.Objects.{Pricing, pricing_of}
use Rattle.pricing.specs.ObjectFigures.{cost_of}
use Rattle.pricing.proofs.ObjectLaws.{cost_law}
use Rattle.corner_bound.specs.ObjectCornerBound.{load_of, corner_sum_of, corner_bound_of, CornerBound}
use Rattle.corner_bound.proofs.LoadLaws.{load_law}

module _ (P : Pricing) (r : Rect) where
  pub corner_bound_of_is : corner_bound_of P r ≡ half_up (pos (corner_sum_of P r) -ℤ pos (span P.axis r * load_of P r))
  unfolding corner_bound_of
  corner_bound_of_is = refl

  pub corner_sum_of_is : corner_sum_of P r
      ≡ max (cost_of P (record { x = r.xlo; y = r.ylo }) + cost_of P (record { x = r.xhi; y = r.yhi }))
      (cost_of P (record { x = r.xlo; y = r.yhi }) + cost_of P (record { x = r.xhi; y = r.ylo }))
  unfolding corner_sum_of
  corner_sum_of_is = refl

module _ (deck : Deck) (r : Rect) where
  corner_sum_law : corner_sum_of (pricing_of deck) r ≡ corner_sum deck r
  corner_sum_law =
      corner_sum_of_is (pricing_of deck) r
      ∙ (λ i. max (cost_law deck (record { x = r.xlo; y = r.ylo }) i + cost_law deck (record { x = r.xhi; y = r.yhi }) i)
      (cost_law deck (record { x = r.xlo; y = r.yhi }) i + cost_law deck (record { x = r.xhi; y = r.ylo }) i))
      ∙ sym (corner_sum_is deck r)

  pub corner_bound_law : corner_bound_of (pricing_of deck) r ≡ corner_bound deck r
  corner_bound_law =
      corner_bound_of_is (pricing_of deck) r ∙ (λ i. half_up (pos (corner_sum_law i) -ℤ pos (span deck.axis r * load_law deck r i)))
      ∙ sym (corner_bound_is deck r)

-- what the code computes of the dearer sum m and of span × load, s, as words
pub half_words : (m s : ℕ) (h : ℤ) {z : ℤ} → m ≤ 2 * cost_limit → s ≤ 2 * cost_limit
    → h ≡ half_up (to_z w64 (of_z w64 (to_z w64 m -ℤ to_z w64 s))) → half_up (pos m -ℤ pos s) ≡ z → CornerBound z (to_z w64 (of_z w64 h))
half_words m s h {z} f g e is =
    let within : nat_abs z ≤ cost_limit = rw (← is) (half_sub_abs m s cost_limit f g) in
    let same : h ≡ z =
    e ∙ ap half_up (to_z-of_z w64 _ (difference_fits m s (omega arith) (omega arith)) ∙ difference m s (omega arith) (omega arith)) ∙ is in
    let word : to_z w64 (of_z w64 h) ≡ z = result_is w64 h z same (word_fits w64 z (omega (arith, within))) in
    record { is = word; within = rw word within }
