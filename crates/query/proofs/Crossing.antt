-- The paper's Theorem 2, with ties decided by which place is earlier: for every place of the area some crossing of lines is as good.
use mathlib.Core.Path.{◌≡◌, refl, ap}
use mathlib.Core.Bool.{not}
use mathlib.Core.Logic.{◌⊎◌, inl, inr, ⊎_elim}
use mathlib.Core.List.Memᴰ
use mathlib.Core.List.{List, [], ◌∷◌, Memᴰ}
use Prim.Native.Nat.{ℕ, ◌+◌, ◌*◌, ◌≤◌, ◌<◌}
use native.Mathlib.Nat.{mul-le-mul_left}
use native.Mathlib.Omega.{arith}
use lib.Dec.{T, ltb, ltb→lt, nltb→le}
use lib.IntN.{ℤ}
use lib.Signed.{le_z, lt_z, ◌≤ℤ◌}
use Rattle.numbers.specs.Integer.{dist}
use Rattle.numbers.proofs.Truth.{test}
use Rattle.numbers.proofs.Integer.{order, dist_nat}
use Rattle.query.specs.Place.{Place, In, Axis, x_axis, y_axis, coordinate, low_edge, high_edge, earlier}
use Rattle.query.specs.Deck.{Deck}
use Rattle.query.specs.Cost.{cost}
use Rattle.query.specs.Lines.{lines}
use Rattle.query.specs.Order.{Priced, better}
use Rattle.query.specs.Laws.{edge_low, edge_high, of_stop, AsGood}
use Rattle.query.proofs.KeyOrder.{better_strict, not_earlier, not_better}
use Rattle.query.proofs.Axes.{for_both, along, moved, moved_self, moved_in}
use Rattle.query.proofs.LineLaws.{lines_law}
use Rattle.query.proofs.Chord.{Free, chord}

abbrev priced : Deck → Place → Priced
priced deck p = record { at = p; cost = cost deck p }

-- two numbers of a kind around c, no further off than lo₀ and hi₀, with none of the list strictly between them
record Around (Kind : ℤ → Type 0) (c lo₀ hi₀ : ℤ) (xs : List ℤ) : Type 0 where
  lo : ℤ
  hi : ℤ
  lo_kind : Kind lo
  hi_kind : Kind hi
  below : lo ≤ℤ c
  above : c ≤ℤ hi
  from_low : lo₀ ≤ℤ lo
  to_high : hi ≤ℤ hi₀
  none : (v : ℤ) → Memᴰ v xs → (v ≤ℤ lo) ⊎ (hi ≤ℤ v)

-- found by going through the list with the closest two so far
around : (Kind : ℤ → Type 0) (c lo hi : ℤ) (xs : List ℤ) → Kind lo → Kind hi → lo ≤ℤ c → c ≤ℤ hi → ((v : ℤ) → Memᴰ v xs → Kind v) → Around Kind c lo hi xs
around Kind c lo hi [] l h p q all = record {
  lo = lo;
  hi = hi;
  lo_kind = l;
  hi_kind = h;
  below = p;
  above = q;
  from_low = omega (arith, order);
  to_high = omega (arith, order);
  none = λ v m. absurd (Memᴰ.not-nil m);
}
around Kind c lo hi (x ∷ xs) l h p q all =
    ⊎_elim
    (λ t. ⊎_elim (λ u. step x hi (around Kind c x hi xs k h (omega (arith, order)) q rest) (omega (arith, order)) (omega (arith, order))
    (inl (omega (arith, order)))) (λ u. step lo hi (around Kind c lo hi xs l h p q rest) (omega (arith, order)) (omega (arith, order))
    (inl (omega (arith, order)))) (test (le_z lo x)))
    (λ t. ⊎_elim (λ u. step lo x (around Kind c lo x xs l k p (omega (arith, order)) rest) (omega (arith, order)) (omega (arith, order))
    (inr (omega (arith, order)))) (λ u. step lo hi (around Kind c lo hi xs l h p q rest) (omega (arith, order)) (omega (arith, order))
    (inr (omega (arith, order)))) (test (le_z x hi)))
    (test (le_z x c))
  where
    k : Kind x
    k = all x (Memᴰ.head refl)

    rest : (v : ℤ) → Memᴰ v xs → Kind v
    rest v m = all v (Memᴰ.tail m)

    step : (lo₁ hi₁ : ℤ) → Around Kind c lo₁ hi₁ xs → lo ≤ℤ lo₁ → hi₁ ≤ℤ hi → (x ≤ℤ lo₁) ⊎ (hi₁ ≤ℤ x) → Around Kind c lo hi (x ∷ xs)
    step lo₁ hi₁ r s t side = record {
      lo = r.lo;
      hi = r.hi;
      lo_kind = r.lo_kind;
      hi_kind = r.hi_kind;
      below = r.below;
      above = r.above;
      from_low = omega (arith, order);
      to_high = omega (arith, order);
      none = λ v m. ⊎_elim (λ e. ⊎_elim (λ u. inl (omega (arith, order))) (λ u. inr (omega (arith, order))) side) (r.none v) (Memᴰ.cases_cons m);
    }

moved_earlier : (axis : Axis) (p : Place) (v : ℤ) → v ≤ℤ coordinate axis p → T (not (earlier p (moved axis v p)))
moved_earlier x_axis p v h = not_earlier p (moved x_axis v p) h (omega (arith, order))
moved_earlier y_axis p v h = not_earlier p (moved y_axis v p) (omega (arith, order)) h

-- the lines next to a place have no stop within reach of the area strictly between them
lines_free : (deck : Deck) (axis : Axis) (lo hi : ℤ) → low_edge axis deck.area ≤ℤ lo → hi ≤ℤ high_edge axis deck.area →
    ((v : ℤ) → Memᴰ v (lines deck axis) → (v ≤ℤ lo) ⊎ (hi ≤ℤ v)) → Free deck axis lo hi
lines_free deck axis lo hi h k none stop m t =
    ⊎_elim (λ s. inl (omega (arith, order))) (λ s. ⊎_elim (λ u. inr (omega (arith, order)))
    (λ u. none (coordinate axis stop.at) (((lines_law deck axis).named (coordinate axis stop.at)).1
    (of_stop stop m t refl (omega (arith, order)) (omega (arith, order))))) (test (lt_z (high_edge axis deck.area) (coordinate axis stop.at))))
    (test (lt_z (coordinate axis stop.at) (low_edge axis deck.area)))

-- where the chord's lower end is dearer than its middle, the upper end is not, and costs the same only at the middle itself
upper_end : (α β low mid high : ℕ) → α * low + β * high ≤ (β + α) * mid → mid < low → 0 < β → (high ≤ mid) × (mid ≡ high → α ≡ 0)
upper_end α β low mid high h k b = (
  ⊎_elim (λ t. absurd (omega (arith, mul-le-mul_left α k, mul-le-mul_left β (ltb→lt mid high t)))) (λ t. omega (arith, nltb→le)) (test (ltb mid high)),
  λ e. omega (arith, mul-le-mul_left α k, ap (λ n. β * n) e),
)

module _ (deck : Deck) (axis : Axis) (p : Place) (within : In deck.area p) where
  -- a line as good as p, along one axis
  abbrev Slid : Type 0
  Slid = (v : ℤ) × Memᴰ v (lines deck axis) × In deck.area (moved axis v p) × T (not (better (priced deck p) (priced deck (moved axis v p))))

  -- p moved to a line where it costs no more, and where it costs the same is not later
  slid_to : (v : ℤ) → Memᴰ v (lines deck axis) → low_edge axis deck.area ≤ℤ v → v ≤ℤ high_edge axis deck.area →
      cost deck (moved axis v p) ≤ cost deck p → (cost deck p ≡ cost deck (moved axis v p) → v ≤ℤ coordinate axis p) → Slid
  slid_to v m h k a b = (
    v,
    m,
    moved_in axis deck.area p v within h k,
    not_better (priced deck p) (priced deck (moved axis v p)) a (λ e. moved_earlier axis p v (b e)),
  )

  -- a place that costs more than p is not p
  apart : (v : ℤ) → v ≤ℤ coordinate axis p → cost deck p < cost deck (moved axis v p) → 0 < dist v (coordinate axis p)
  apart v h k = ⊎_elim (λ t. omega (arith, order, dist_nat v (coordinate axis p))) (λ t. absurd (same (omega (arith, order))))
      (test (lt_z v (coordinate axis p)))
    where
      same : v ≡ coordinate axis p → ⊥
      same e = omega (arith, ap (λ w. cost deck (moved axis w p)) e, ap (cost deck) (moved_self axis p))

  -- the lines next to p
  abbrev Next : Type 0
  Next = Around (λ v. Memᴰ v (lines deck axis)) (coordinate axis p) (low_edge axis deck.area) (high_edge axis deck.area) (lines deck axis)

  -- where the lower is dearer, the upper is as good
  slid_up : (r : Next) → cost deck p < cost deck (moved axis r.lo p) → Slid
  slid_up r dear =
      let arch = chord deck axis p r.lo r.hi within r.below r.above (lines_free deck axis r.lo r.hi r.from_low r.to_high r.none) in
      let (cheaper, same) = upper_end (dist (coordinate axis p) r.hi) (dist r.lo (coordinate axis p)) (cost deck (moved axis r.lo p)) (cost deck p)
      (cost deck (moved axis r.hi p)) arch dear (apart r.lo r.below dear) in
      slid_to r.hi r.hi_kind (omega (arith, order)) r.to_high cheaper (λ e. omega (arith, order, same e, dist_nat (coordinate axis p) r.hi))

  slid : Next → Slid
  slid r =
      ⊎_elim (λ t. slid_up r (omega (arith, ltb→lt)))
      (λ t. slid_to r.lo r.lo_kind r.from_low (omega (arith, order)) (omega (arith, nltb→le)) (λ e. r.below))
      (test (ltb (cost deck p) (cost deck (moved axis r.lo p))))

  -- the paper's Theorem 2, along one axis
  pub slide : Slid
  slide =
      slid
      (around (λ v. Memᴰ v (lines deck axis)) (coordinate axis p) (low_edge axis deck.area) (high_edge axis deck.area) (lines deck axis)
      (((lines_law deck axis).named (low_edge axis deck.area)).1 (edge_low refl))
      (((lines_law deck axis).named (high_edge axis deck.area)).1 (edge_high refl)) (along within axis).0 (along within axis).1 (λ v m. m))

-- the paper's Theorem 2: some crossing of two lines is as good as p, ties included
pub crossing : (deck : Deck) (p : Place) → In deck.area p → (q : Place) × AsGood deck p q
crossing deck p within =
    let (v, on-v, within-v, v-as-good) = slide deck x_axis p within in
    let (w, on-w, within-w, w-as-good) = slide deck y_axis (moved x_axis v p) within-v in
    let q : Place = record { x = v; y = w } in (
      q,
      record {
        in_area = within-w;
        on_lines = for_both (λ axis. Memᴰ (coordinate axis q) (lines deck axis)) on-v on-w;
        not_worse = better_strict.chain (priced deck q) (priced deck (moved x_axis v p)) (priced deck p) w-as-good v-as-good;
      },
    )
