-- The passes over the rows for the two parts of a cell: what each row is spared, four sums of what is saved by it, and the figures that are
-- left of `before`.
use mathlib.Core.Path.{◌≡◌, refl, sym, ap, ◌∙◌}
use mathlib.Core.List.{List}
use mathlib.Core.Logic.{⊎_elim}
use Prim.Native.Nat.{ℕ, zero, suc, ◌+◌, ◌-◌, ◌*◌, ◌≤◌, ◌<◌}
use native.Mathlib.Numerals.{add-one}
use native.Mathlib.Omega.{arith}
use lib.Dec.{ltb, ltb→lt, nltb→le}
use lib.IntN.{ℤ, pos, nat_abs}
use lib.ListN.{length, get_or, set}
use lib.Seq.{get_or-set_same, get_or-set_other}
use lib.Signed.{◌≤ℤ◌}
use Rattle.numbers.specs.Lists.{sum_of}
use Rattle.numbers.proofs.Integer.{order}
use Rattle.numbers.proofs.Truth.{test}
use Rattle.query.specs.Place.{Place, Rect}
use Rattle.query.specs.Deck.{plain}
use Rattle.query.specs.Travel.{travel}
use Rattle.query.specs.Range.{cost_limit, travel_limit}
use Rattle.columns.specs.Objects.{Object, scaled_place, scaled_rect}
use Rattle.columns.specs.ObjectColumns.{object_at, objects_in, axis_in, pricing_in}
use Rattle.reach.specs.Held.{object_of_row}
use Rattle.reach.specs.declared.objects.Row.{Row}
use Rattle.reach.proofs.NarrowLaws.{word, number_word}
use Rattle.reach.proofs.ReachLaws.{travel_to_scaled}
use Rattle.pricing.specs.ObjectFigures.{cost_of, before_of, bound_of, Figure}
use Rattle.pricing.specs.Spared.{SparedColumn}
use Rattle.pricing.specs.declared.Spared.{Spared}
use Rattle.pricing.proofs.ObjectLaws.{paid_along, saved_along, paid_by, least_paid_by, paid_and_saved, cost_of_sum, before_of_sum, bound_of_sum}
use Rattle.pricing.proofs.ColumnLaws.{sum_none, sum_more}
use Rattle.pricing.proofs.TurnLaws.{paid_limit, Travelled, found_word}

-- ---- what each row is spared
module _ (travelled : Object → ℕ) (columns : List ℤ) where
  pub spared_none : (column : List ℤ) → SparedColumn travelled columns 0 column
  spared_none column = record { each = λ i h. absurd (omega arith) }

  module _ (column : List ℤ) (i : ℕ) (row : Row) (t : ℤ) (found : Travelled travelled row t) (at : object_of_row row ≡ object_at columns i) where
    stored : (v : ℤ) → v ≡ pos (nat_abs row.near - nat_abs (word t)) → word v ≡ pos ((object_at columns i).near - travelled (object_at columns i))
    stored v e =
        let own : v ≡ pos ((object_of_row row).near - travelled (object_of_row row)) = e ∙ rw (found_word found) refl in
        let there = own ∙ ap (λ (s : Object). pos (s.near - travelled s)) at in
        ap word there ∙ number_word _ (omega (arith, row.in_range.near_range, ap nat_abs own, ap nat_abs there))

    pub spared_more : (v : ℤ) → v ≡ pos (nat_abs row.near - nat_abs (word t)) → i < length column → SparedColumn travelled columns i column
        → SparedColumn travelled columns (i + 1) (set column i (word v))
    spared_more v e long passed = record { each = each }
      where
        each : (j : ℕ) → j < i + 1 → get_or (set column i (word v)) j (pos 0) ≡ pos ((object_at columns j).near - travelled (object_at columns j))
        each j h = ⊎_elim
            (λ b. get_or-set_other column i j (word v) (pos 0) (λ q. omega (arith, ltb→lt j i b)) ∙ passed.each j (ltb→lt j i b))
            (λ b. let q : i ≡ j = omega (arith, nltb→le j i b) in rw (← q) (get_or-set_same column i (word v) (pos 0) long ∙ stored v e))
            (test (ltb j i))

-- ---- what is saved by it
-- the sum of it over i rows, by the column of what they are spared
unfoldable pub column_sum : List ℤ → List ℤ → ℕ → ℕ
column_sum columns column zero = 0
column_sum columns column (suc i) = column_sum columns column i + (object_at columns i).visits * nat_abs (get_or column i (pos 0))

pub record Summed (columns column : List ℤ) (sum i : ℕ) : Type 0 where
  pub so_far : sum ≡ column_sum columns column i
  pub most : sum ≤ i * paid_limit

-- the four sums of i rows
pub record PartsSummed (columns : List ℤ) (spared : Spared) (low high first second i : ℕ) : Type 0 where
  pub at_low : Summed columns spared.low low i
  pub at_high : Summed columns spared.high high i
  pub in_first : Summed columns spared.first first i
  pub in_second : Summed columns spared.second second i

pub summed_none : (columns column : List ℤ) → Summed columns column 0 0
unfolding column_sum
summed_none columns column = record { so_far = refl; most = omega arith }

module _ {travelled : Object → ℕ} {columns column : List ℤ} {n : ℕ} (spared : SparedColumn travelled columns n column) where
  module _ (i : ℕ) (h : i < n) (row : Row) (at : object_of_row row ≡ object_at columns i) where
    own : get_or column i (pos 0) ≡ pos (nat_abs row.near - travelled (object_of_row row))
    own = spared.each i h ∙ ap (λ (s : Object). pos (s.near - travelled s)) (sym at)

    spare_word : word (get_or column i (pos 0)) ≡ get_or column i (pos 0)
    spare_word = number_word _ (rw own (omega (arith, row.in_range.near_range)))

    pub spare_fits : (pos 0 ≤ℤ word (get_or column i (pos 0))) × (nat_abs (word (get_or column i (pos 0))) ≤ travel_limit)
    spare_fits = rw (spare_word, own) (omega (arith, order), omega (arith, row.in_range.near_range))

    pub summed_more : {sum : ℕ} (v : ℕ) → Figure (nat_abs row.visits * nat_abs (word (get_or column i (pos 0)))) paid_limit v →
        Summed columns column sum i → Summed columns column (sum + v) (i + 1)
    unfolding column_sum
    summed_more {sum} v e passed =
        let part : v ≡ (object_at columns i).visits * nat_abs (get_or column i (pos 0)) = e.is
        ∙ ap (λ (z : ℤ). nat_abs row.visits * nat_abs z) spare_word ∙ ap (λ (s : Object). s.visits * nat_abs (get_or column i (pos 0))) at in
        record { so_far = rw (add-one i) (omega (arith, passed.so_far)); most = omega (arith, passed.most, e.within) }

  column_saved : (k : ℕ) → k ≤ n → column_sum columns column k ≡ sum_of (saved_along travelled) (objects_in columns k)
  unfolding column_sum
  column_saved zero h = sym (sum_none (saved_along travelled) columns)
  column_saved (suc k) h =
      let each : nat_abs (get_or column k (pos 0)) ≡ (object_at columns k).near - travelled (object_at columns k) =
      ap nat_abs (spared.each k (omega arith)) in
      rw (← add-one k) (rw (sum_more (saved_along travelled) columns k, each, column_saved k (omega arith)) refl)

-- ---- what is left of `before` behind all rows
module _ (columns : List ℤ) (n : ℕ) {before i : ℕ} (whole : Figure (before_of (pricing_in columns n)) cost_limit before) (full : i ≡ n) where
  module _ (travelled : Object → ℕ) {column : List ℤ} {sum : ℕ} (spared : SparedColumn travelled columns n column) (summed : Summed columns column sum i) where
    together : sum_of (paid_along travelled) (objects_in columns n) + sum ≡ before
    together =
        let all : sum ≡ sum_of (saved_along travelled) (objects_in columns n) = summed.so_far ∙ ap (column_sum columns column) full
        ∙ column_saved spared n (omega arith) in
        omega (arith, whole.is, before_of_sum (pricing_in columns n), paid_and_saved travelled (objects_in columns n))

    pub saved_less : sum ≤ before
    saved_less = omega (arith, together)

    left : (figure : ℕ) → figure ≡ sum_of (paid_along travelled) (objects_in columns n) → Figure figure cost_limit (before - sum)
    left figure e = record { is = omega (arith, together); within = omega (arith, whole.within) }

  module _ {column : List ℤ} {sum : ℕ} where
    pub cost_left : (p q : Place) → q ≡ scaled_place (axis_in columns) p → SparedColumn (λ s. travel plain s.at q) columns n column
        → Summed columns column sum i → Figure (cost_of (pricing_in columns n) p) cost_limit (before - sum)
    cost_left p q g spared summed = left _ spared summed (cost_of (pricing_in columns n) p)
        (cost_of_sum (pricing_in columns n) p ∙ ap (λ (r : Place). sum_of (paid_by r) (objects_in columns n)) (sym g))

    pub bound_left : (r s : Rect) → s ≡ scaled_rect (axis_in columns) r → SparedColumn (travel_to_scaled s) columns n column
        → Summed columns column sum i → Figure (bound_of (pricing_in columns n) r) cost_limit (before - sum)
    bound_left r s g spared summed = left _ spared summed (bound_of (pricing_in columns n) r)
        (bound_of_sum (pricing_in columns n) r ∙ ap (λ (t : Rect). sum_of (least_paid_by t) (objects_in columns n)) (sym g))
