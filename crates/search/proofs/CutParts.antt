-- A cut cell as the code makes its parts: they and their figures are those of the definitions, and stay in range.
use mathlib.Core.Path.{◌≡◌, refl, sym, ap, subst, ◌∙◌}
use Prim.Native.Nat.{ℕ, ◌≤◌}
use native.Mathlib.Omega.{arith}
use mir.Syntax.{w64}
use mir.Val.{to_z}
use mir.ValLaws.{to_z_pos}
use lib.IntN.{ℤ, pos, nat_abs}
use lib.Signed.{◌<ℤ◌}
use Rattle.std.specs.Prelude.{Option, Some, IsSome, is_some}
use Rattle.numbers.proofs.Truth.{holds}
use Rattle.numbers.proofs.Words.{word_fits}
use Rattle.numbers.proofs.WordTests.{back, back_is}
use Rattle.numbers.proofs.Integer.{order, abs_range}
use Rattle.query.specs.Place.{Rect, Axis, x_axis, y_axis, low_edge, high_edge}
use Rattle.query.specs.Grid.{Grid}
use Rattle.query.specs.Cut.{Line, can_cut, cut_line, cut_before, cut_after}
use Rattle.query.specs.Range.{RectInRange, coordinate_limit, cost_limit}
use Rattle.query.proofs.CutLaws.{cut_law}
use Rattle.deck.specs.declared.Rect as Deck
use Rattle.deck.specs.Values.{axis_of, rect_of}
use Rattle.columns.specs.Objects.{Pricing}
use Rattle.reach.specs.Columns.{Ranged}
use Rattle.pricing.specs.declared.PartFigures.{PartFigures}
use Rattle.pricing.specs.ObjectFigures.{Figure, PartsPriced}
use Rattle.cuts.specs.CutRecord.{axis_record, cut_at, cut_record}
use Rattle.cuts.specs.declared.Cut.{Cut}
use Rattle.cuts.proofs.CutRecordLaws.{axis_back, cut_record_found, cut_record_cut}
use Rattle.priced_place.specs.declared.PricedPlace.{PricedPlace}
use Rattle.priced_place.specs.ObjectProblem.{priced_place_at}
use Rattle.search.specs.declared.halves.Halves.{Halves}
use Rattle.search.specs.CutCell.{parts_of, halves_of, Cutting}

-- ---- ranges
middle_range : (lo v hi : ℤ) → nat_abs lo ≤ coordinate_limit → nat_abs hi ≤ coordinate_limit → lo <ℤ v → v <ℤ hi → nat_abs v ≤ coordinate_limit
middle_range lo v hi a b h g =
    let p = (abs_range lo coordinate_limit).0 a in
    let q = (abs_range hi coordinate_limit).0 b in
    (abs_range v coordinate_limit).1 (omega (arith, order))

line_range : (axis : Axis) (v : ℤ) (r : Rect) → RectInRange r → low_edge axis r <ℤ v → v <ℤ high_edge axis r → nat_abs v ≤ coordinate_limit
line_range x_axis v r h = middle_range r.xlo v r.xhi h.low_corner_law.x_range h.high_corner_law.x_range
line_range y_axis v r h = middle_range r.ylo v r.yhi h.low_corner_law.y_range h.high_corner_law.y_range

parts_range : (axis : Axis) (v : ℤ) (r : Rect) → Ranged r → nat_abs v ≤ coordinate_limit → low_edge axis r <ℤ v → v <ℤ high_edge axis r
    → Ranged (cut_before axis v r) × Ranged (cut_after axis v r)
parts_range x_axis v r h n lo hi =
    let k = h.range in (
      record {
        range = record { low_corner_law = k.low_corner_law; high_corner_law = record { x_range = n; y_range = k.high_corner_law.y_range } };
        full = record { across = omega (arith, order); deep = h.full.deep };
      },
      record {
        range = record { low_corner_law = record { x_range = n; y_range = k.low_corner_law.y_range }; high_corner_law = k.high_corner_law };
        full = record { across = omega (arith, order); deep = h.full.deep };
      },
    )
parts_range y_axis v r h n lo hi =
    let k = h.range in (
      record {
        range = record { low_corner_law = k.low_corner_law; high_corner_law = record { x_range = k.high_corner_law.x_range; y_range = n } };
        full = record { across = h.full.across; deep = omega (arith, order) };
      },
      record {
        range = record { low_corner_law = record { x_range = k.low_corner_law.x_range; y_range = n }; high_corner_law = k.high_corner_law };
        full = record { across = h.full.across; deep = omega (arith, order) };
      },
    )

-- a rectangle as the code holds it in words
abbrev words : Rect → Rect
words r = record { xlo = back r.xlo; ylo = back r.ylo; xhi = back r.xhi; yhi = back r.yhi }

back_coordinate : (v : ℤ) → nat_abs v ≤ coordinate_limit → back v ≡ v
back_coordinate v h = back_is (word_fits w64 v (omega (arith, h)))

words_are : (r : Rect) → RectInRange r → words r ≡ r
words_are r h = λ i. record {
  xlo = back_coordinate r.xlo h.low_corner_law.x_range i;
  ylo = back_coordinate r.ylo h.low_corner_law.y_range i;
  xhi = back_coordinate r.xhi h.high_corner_law.x_range i;
  yhi = back_coordinate r.yhi h.high_corner_law.y_range i;
}

-- ---- what the parts make
-- a bound, as a word
bound_word : {n m : ℕ} → Figure n cost_limit m → to_z w64 m ≡ pos n
bound_word {m = m} h = to_z_pos w64 m (omega (arith, h.within)) ∙ ap pos h.is

pub parts_are : (P : Pricing) (first second : Deck.Rect) (figures : PartFigures) → PartsPriced P (rect_of first) (rect_of second) figures
    → (low high : PricedPlace) → low ≡ priced_place_at second.xlo second.ylo figures.low_cost → high ≡ priced_place_at first.xhi first.yhi figures.high_cost
    → ◌≡◌ {A = Halves} (record {
      low = low;
      high = high;
      first = record { rect = first; bound = to_z w64 figures.first_bound };
      second = record { rect = second; bound = to_z w64 figures.second_bound };
    }) (parts_of P (rect_of first) (rect_of second))
unfolding parts_of
parts_are P first second figures h low high l k = λ i. record {
  low = (l ∙ ap (priced_place_at second.xlo second.ylo) h.low.is) i;
  high = (k ∙ ap (priced_place_at first.xhi first.yhi) h.high.is) i;
  first = record { rect = first; bound = bound_word h.first_bound i };
  second = record { rect = second; bound = bound_word h.second_bound i };
}

halves_by : (axis : Axis) (P : Pricing) (v : ℤ) (r : Rect)
    → parts_of P (cut_before axis v r) (cut_after axis v r) ≡ halves_of P (record { axis = axis; at = v }) r
unfolding parts_of halves_of
halves_by x_axis P v r = refl
halves_by y_axis P v r = refl

-- ---- a cell that is cut
module _ (G : Grid) (r : Rect) (h : Cutting G r) where
  abbrev line : Line
  line = cut_line G r

  pub parts_ranged : Ranged (cut_before line.axis line.at r) × Ranged (cut_after line.axis line.at r)
  parts_ranged =
      let i = ((cut_law G r).cut_line_holds h.can_cut_lem).is_inside in
      parts_range line.axis line.at r h.ranged (line_range line.axis line.at r h.ranged.range i.above i.below) i.above i.below

  pub cut_there : (o : Option Cut) → o ≡ cut_record G r → IsSome o
  cut_there o e = ap is_some e ∙ cut_record_found G r ∙ holds (can_cut G r) h.can_cut_lem

  -- along an axis, at the cut that is found
  module _ (o : Option Cut) (found : o ≡ cut_record G r) (cut : Cut) (is : o ≡ Some cut) where
    cut_is : cut ≡ cut_at (axis_record line.axis) line.at
    cut_is =
        let same : Some cut ≡ Some (cut_at (axis_record line.axis) line.at) = sym is ∙ found ∙ cut_record_cut G r (holds (can_cut G r) h.can_cut_lem) in
        cc

    line_is : (axis : Axis) → axis_of cut.axis ≡ axis → record { axis = axis; at = cut.at } ≡ line
    line_is axis e =
        let same : axis ≡ line.axis = sym e ∙ ap (λ (c : Cut). axis_of c.axis) cut_is ∙ axis_back line.axis in
        λ i. record { axis = same i; at = (cut_is i).at }

    module _ (axis : Axis) (e : axis_of cut.axis ≡ axis) where
      abbrev first : Rect
      first = cut_before axis cut.at r

      abbrev second : Rect
      second = cut_after axis cut.at r

      ranged : Ranged first × Ranged second
      ranged = subst (λ (l : Line). Ranged (cut_before l.axis l.at r) × Ranged (cut_after l.axis l.at r)) (sym (line_is axis e)) parts_ranged

      pub words_ranged : Ranged (words first) × Ranged (words second)
      words_ranged = (subst Ranged (sym (words_are first ranged.0.range)) ranged.0, subst Ranged (sym (words_are second ranged.1.range)) ranged.1)

      pub halves_are : (P : Pricing) (halves : Halves) → halves ≡ parts_of P (words first) (words second) → halves ≡ halves_of P line r
      halves_are P halves made =
          made
          ∙ (λ i. parts_of P (words_are first ranged.0.range i) (words_are second ranged.1.range i))
          ∙ halves_by axis P cut.at r
          ∙ ap (λ (l : Line). halves_of P l r) (line_is axis e)
