-- A place or rectangle that is allowed, by the tests of a job's lines.
use mathlib.Core.Path.{◌≡◌, refl, ◌∙◌}
use mathlib.Core.Bool.{Bool, true, false, not, ◌&&◌, ◌||◌}
use mathlib.Core.Logic.{◌⊎◌, inl, inr, ◌↔◌}
use mathlib.Core.List.{[], ◌∷◌}
use native.Mathlib.Omega.{arith}
use lib.Dec.{T}
use lib.IntN.{ℤ}
use lib.Signed.{le_z, lt_z, ◌≤ℤ◌}
use Rattle.numbers.proofs.Truth.{and_iff, test, holds, fails}
use Rattle.numbers.proofs.Integer.{order}
use Rattle.query.specs.Place.{Place, Rect, corner}
use Rattle.query.specs.Range.{PlaceInRange}
use Rattle.job_line.specs.Kinds.{area, post, coordinates, row, in_range, in_ranges}
use Rattle.job_line.specs.Reading.{area_numbers, place_numbers}
use Rattle.job_line.proofs.RangeTests.{in_two, in_more}
use Rattle.job.specs.Format.{area_of, empty_area}
use Rattle.job.proofs.RangeLaws.{coordinate_range}
use Rattle.reach.specs.Columns.{Ranged}
use Rattle.deck.specs.Values.{place_of, rect_of}
use Rattle.deck.specs.declared.Place as Code
use Rattle.deck.specs.declared.Rect as Held
use Rattle.trial.specs.Ranges.{place_in_range, rect_allowed}

-- the test holds of the places that are in range, and of no others
pub place_range : (p : Place) → T (place_in_range p) ↔ PlaceInRange p
unfolding place_in_range
place_range p =
    let both = and_iff (in_range coordinates p.x) (in_range coordinates p.y) (coordinate_range p.x) (coordinate_range p.y) in
    (λ t. record { x_range = (both.0 t).0; y_range = (both.0 t).1 }, λ h. both.1 (h.x_range, h.y_range))

-- the test holds of the rectangles that are in range and not empty, and of no others
in_order : (a b : ℤ) → T (le_z a b) ↔ (a ≤ℤ b)
in_order a b = (λ t. record { le = t }, λ h. h.le)

pub rect_range : (r : Rect) → T (rect_allowed r) ↔ Ranged r
unfolding rect_allowed
rect_range r =
    let high : Place = record { x = r.xhi; y = r.yhi } in
    let order = and_iff (le_z r.xlo r.xhi) (le_z r.ylo r.yhi) (in_order r.xlo r.xhi) (in_order r.ylo r.yhi) in
    let three = and_iff (place_in_range high) (le_z r.xlo r.xhi && le_z r.ylo r.yhi) (place_range high) order in
    let four = and_iff (place_in_range (corner r)) (place_in_range high && (le_z r.xlo r.xhi && le_z r.ylo r.yhi)) (place_range (corner r)) three in (
      λ t. let (l, (h, (x, y))) = four.0 t in record { range = record { low_corner_law = l; high_corner_law = h }; full = record { across = x; deep = y } },
      λ h. four.1 (h.range.low_corner_law, (h.range.high_corner_law, (h.full.across, h.full.deep))),
    )

-- ---- the tests by those of a job's lines and area
pub place_test : (at : Code.Place) → in_ranges (row post).ranges (place_numbers at) ≡ place_in_range (place_of at)
unfolding place_in_range
place_test at = in_two coordinates coordinates at.x at.y

not_less : (a b : ℤ) → not (lt_z b a) ≡ le_z a b
not_less a b = go (test (lt_z b a))
  where
    go : T (lt_z b a) ⊎ T (not (lt_z b a)) → not (lt_z b a) ≡ le_z a b
    go (inl t) = rw (holds (lt_z b a) t, fails (le_z a b) (omega (arith, order)))
    go (inr t) = rw (fails (lt_z b a) t, holds (le_z a b) (omega (arith, order)))

neither : (a b : Bool) → not (a || b) ≡ not a && not b
neither true b = refl
neither false b = refl

grouped : (a b c : Bool) → (a && b) && c ≡ a && (b && c)
grouped true b c = refl
grouped false b c = refl

module _ (r : Held.Rect) where
  corners_test : in_ranges (row area).ranges (area_numbers r) ≡ place_in_range (corner (rect_of r)) && place_in_range (record { x = r.xhi; y = r.yhi })
  corners_test =
      in_more coordinates coordinates r.xlo r.ylo (coordinates ∷ coordinates ∷ []) (r.xhi ∷ r.yhi ∷ [])
      ∙ (λ i. place_test (record { x = r.xlo; y = r.ylo }) i && place_test (record { x = r.xhi; y = r.yhi }) i)

  full_test : not (empty_area (area_of (area_numbers r))) ≡ le_z r.xlo r.xhi && le_z r.ylo r.yhi
  unfolding empty_area
  full_test = neither (lt_z r.xhi r.xlo) (lt_z r.yhi r.ylo) ∙ (λ i. not_less r.xlo r.xhi i && not_less r.ylo r.yhi i)

  pub rect_test : in_ranges (row area).ranges (area_numbers r) && not (empty_area (area_of (area_numbers r))) ≡ rect_allowed (rect_of r)
  unfolding rect_allowed
  rect_test =
      (λ i. corners_test i && full_test i)
      ∙ grouped (place_in_range (corner (rect_of r))) (place_in_range (record { x = r.xhi; y = r.yhi })) (le_z r.xlo r.xhi && le_z r.ylo r.yhi)
