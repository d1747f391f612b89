-- The ranges of a line: what it says of its numbers that they are in them.
use mathlib.Core.Path.{◌≡◌, refl, sym, ap, subst}
use mathlib.Core.Bool.{true}
use mathlib.Core.Logic.{◌↔◌}
use mathlib.Core.List.{List, [], ◌∷◌}
use Prim.Native.Nat.{ℕ, suc, ◌+◌, ◌≤◌, ◌<◌, ◌^◌, max}
use native.Mathlib.Omega.{arith}
use lib.Dec.{T}
use lib.IntN.{ℤ, pos, negsuc, nat_abs}
use lib.ListN.{length, length-append}
use lib.Signed.{◌≤ℤ◌}
use Rattle.numbers.proofs.Truth.{and_left, and_right, and_intro}
use Rattle.numbers.proofs.Integer.{order, abs_range}
use Rattle.numbers.proofs.Ranges.{between_range, range_between}
use Rattle.query.specs.Place.{Place, Rect}
use Rattle.query.specs.Deck.{AxisCosts, Stop}
use Rattle.query.specs.Range.{PlaceInRange, RectInRange, StopInRange, coordinate_limit, visits_limit, axis_cost_limit}
use Rattle.text.specs.Ascii.{bytes}
use Rattle.text.specs.Decimal.{spell_int}
use Rattle.text.proofs.DigitCounts.{length_spell_nat_grows}
use Rattle.job_line.specs.Kinds.{Kind, area, axis, posts, post, stops, stop, rounds, Range, coordinates, up_to, row, in_range, in_ranges}
use Rattle.job.specs.Format.{area_of, axis_costs_of, axis_numbers, count_of, post_of, stop_of}
use Rattle.job.specs.Spelling.{area_line, post_line, stop_line, spell_numbers}
use Rattle.job.proofs.FormLaws.{Within, Fitting, text_of}

-- ---- each number in its range
abbrev pub EachIn : List Range → List ℤ → Type 0
EachIn [] [] = Unit
EachIn [] (n ∷ ns) = ⊥
EachIn (range ∷ ranges) [] = ⊥
EachIn (range ∷ ranges) (n ∷ ns) = T (in_range range n) × EachIn ranges ns

each_in : (ranges : List Range) (ns : List ℤ) → T (in_ranges ranges ns) → EachIn ranges ns
unfolding in_ranges
each_in [] [] t = tt
each_in [] (n ∷ ns) t = t
each_in (range ∷ ranges) [] t = t
each_in (range ∷ ranges) (n ∷ ns) t = (
  and_left (in_range range n) (in_ranges ranges ns) t,
  each_in ranges ns (and_right (in_range range n) (in_ranges ranges ns) t),
)

pub in_each : (ranges : List Range) (ns : List ℤ) → EachIn ranges ns → T (in_ranges ranges ns)
unfolding in_ranges
in_each [] [] e = tt
in_each [] (n ∷ ns) e = e
in_each (range ∷ ranges) [] e = e
in_each (range ∷ ranges) (n ∷ ns) e = and_intro (in_range range n) (in_ranges ranges ns) e.0 (in_each ranges ns e.1)

-- as many numbers as ranges
as_many : (ranges : List Range) (ns : List ℤ) → EachIn ranges ns → length ns ≡ length ranges
as_many [] [] e = refl
as_many [] (n ∷ ns) e = absurd e
as_many (range ∷ ranges) [] e = absurd e
as_many (range ∷ ranges) (n ∷ ns) e = ap suc (as_many ranges ns e.1)

-- ---- a number in its range has at most nine digits
abbrev Narrow : List Range → Type 0
Narrow [] = Unit
Narrow (range ∷ ranges) = ((nat_abs range.low < 10 ^ 9) × (nat_abs range.high < 10 ^ 9)) × Narrow ranges

narrow : (k : Kind) → Narrow (row k).ranges
narrow area = omega arith
narrow axis = omega arith
narrow posts = omega arith
narrow post = omega arith
narrow stops = omega arith
narrow stop = omega arith
narrow rounds = omega arith

range_narrow : (range : Range) (n : ℤ) → (nat_abs range.low < 10 ^ 9) × (nat_abs range.high < 10 ^ 9) → T (in_range range n) → nat_abs n < 10 ^ 9
unfolding in_range
range_narrow range n h t = omega (
  arith,
  (abs_range n 999999999).1
      (omega (
        arith,
        order,
        between_range range.low range.high n t,
        (abs_range range.low 999999999).0 (omega arith),
        (abs_range range.high 999999999).0 (omega arith),
      )),
)

ranges_narrow : (ranges : List Range) (ns : List ℤ) → Narrow ranges → EachIn ranges ns → Within ns
ranges_narrow [] [] h e = tt
ranges_narrow [] (n ∷ ns) h e = absurd e
ranges_narrow (range ∷ ranges) [] h e = absurd e
ranges_narrow (range ∷ ranges) (n ∷ ns) h e = (range_narrow range n h.0 e.0, ranges_narrow ranges ns h.1 e.1)

module _ (k : Kind) (ns : List ℤ) (t : T (in_ranges (row k).ranges ns)) where
  pub range_fits : Fitting (row k).ranges ns
  range_fits =
      let e = each_in (row k).ranges ns t in
      record { as_many = as_many (row k).ranges ns e; small = ranges_narrow (row k).ranges ns (narrow k) e }

-- ---- how many bytes the numbers of a line take
-- at most as many as an end of the range
abbrev widest : Range → ℕ
widest range = max (length (spell_int range.low)) (length (spell_int range.high))

widest_is : (range : Range) (n : ℤ) → T (in_range range n) → length (spell_int n) ≤ widest range
unfolding in_range spell_int
widest_is range n t = go n range.low range.high (between_range range.low range.high n t).0 (between_range range.low range.high n t).1
  where
    go : (n low high : ℤ) → low ≤ℤ n → n ≤ℤ high → length (spell_int n) ≤ max (length (spell_int low)) (length (spell_int high))
    go (pos n) low (pos high) h k = omega (arith, length_spell_nat_grows n high (omega (arith, order)))
    go (pos n) low (negsuc high) h k = absurd (omega (arith, order))
    go (negsuc n) (pos low) high h k = absurd (omega (arith, order))
    go (negsuc n) (negsuc low) high h k = omega (arith, length_spell_nat_grows (suc n) (suc low) (omega (arith, order)))

abbrev widths : List Range → ℕ
widths [] = 0
widths (range ∷ ranges) = widest range + 1 + widths ranges

numbers_widths : (ranges : List Range) (ns : List ℤ) → EachIn ranges ns → length (spell_numbers ns) ≤ widths ranges
unfolding spell_numbers
numbers_widths [] [] e = omega arith
numbers_widths [] (n ∷ ns) e = absurd e
numbers_widths (range ∷ ranges) [] e = absurd e
numbers_widths (range ∷ ranges) (n ∷ ns) e = simp length-append (omega (arith, widest_is range n e.0, numbers_widths ranges ns e.1))

-- the longest line of each kind
abbrev pub longest : Kind → ℕ
longest area = 33
longest axis = 9
longest posts = 9
longest post = 19
longest stops = 10
longest stop = 25
longest rounds = 12

longest_is : (k : Kind) → length (row k).key + widths (row k).ranges ≡ longest k
unfolding bytes spell_int
longest_is area = refl
longest_is axis = refl
longest_is posts = refl
longest_is post = refl
longest_is stops = refl
longest_is stop = refl
longest_is rounds = refl

pub line_length : (k : Kind) (ns : List ℤ) → T (in_ranges (row k).ranges ns) → length (text_of (row k) ns) ≤ longest k
line_length k ns t =
    omega (arith, longest_is k, length-append (row k).key (spell_numbers ns), numbers_widths (row k).ranges ns (each_in (row k).ranges ns t))

-- ---- what a range says of a number
pub coordinate_range : (v : ℤ) → T (in_range coordinates v) ↔ (nat_abs v ≤ coordinate_limit)
unfolding in_range
coordinate_range v = (
  λ t. (abs_range v coordinate_limit).1 (omega (arith, order, between_range coordinates.low coordinates.high v t)),
  λ h. range_between coordinates.low coordinates.high v (omega (arith, order, (abs_range v coordinate_limit).0 h))
      (omega (arith, order, (abs_range v coordinate_limit).0 h)),
)

-- a number that is not negative
natural_range : (least most : ℕ) (z : ℤ) → T (in_range (record { low = pos least; high = pos most }) z) →
    (z ≡ pos (nat_abs z)) × (least ≤ nat_abs z) × (nat_abs z ≤ most)
unfolding in_range
natural_range least most (pos n) t = let (low, high) = between_range (pos least) (pos most) (pos n) t in (refl, omega (arith, order), omega (arith, order))
natural_range least most (negsuc n) t = let (low, high) = between_range (pos least) (pos most) (negsuc n) t in absurd (omega (arith, order))

-- ---- what the ranges say of an area, of axis costs, a count, a post and a stop
pub area_range : (r : Rect) → T (in_ranges (row area).ranges (area_line r).numbers) → RectInRange r
area_range r t =
    let e = each_in (row area).ranges (area_line r).numbers t in
    record {
      low_corner_law = record { x_range = (coordinate_range r.xlo).0 e.0; y_range = (coordinate_range r.ylo).0 e.1.0 };
      high_corner_law = record { x_range = (coordinate_range r.xhi).0 e.1.1.0; y_range = (coordinate_range r.yhi).0 e.1.1.1.0 };
    }

pub axis_range : (c : AxisCosts) → T (in_ranges (row axis).ranges (axis_numbers c)) →
    ((1 ≤ c.a) × (1 ≤ c.b)) × ((c.a ≤ axis_cost_limit) × (c.b ≤ axis_cost_limit))
axis_range c t =
    let e = each_in (row axis).ranges (axis_numbers c) t in
    let a = natural_range 1 axis_cost_limit (pos c.a) e.0 in
    let b = natural_range 1 axis_cost_limit (pos c.b) e.1.0 in
    ((a.1, b.1), (a.2, b.2))

pub count_range : (most n : ℕ) → T (in_ranges (up_to most ∷ []) (pos n ∷ [])) ↔ (n ≤ most)
unfolding in_ranges
count_range most n = (
  λ t. (natural_range 0 most (pos n) (each_in (up_to most ∷ []) (pos n ∷ []) t).0).2,
  λ h. and_intro (in_range (up_to most) (pos n)) true (range_between (pos 0) (pos most) (pos n) (omega (arith, order)) (omega (arith, order))) tt,
)

pub post_range : (p : Place) → T (in_ranges (row post).ranges (post_line p).numbers) → PlaceInRange p
post_range p t =
    let e = each_in (row post).ranges (post_line p).numbers t in
    record { x_range = (coordinate_range p.x).0 e.0; y_range = (coordinate_range p.y).0 e.1.0 }

pub stop_range : (s : Stop) → T (in_ranges (row stop).ranges (stop_line s).numbers) → StopInRange s
stop_range s t =
    let e = each_in (row stop).ranges (stop_line s).numbers t in
    let v = natural_range 1 visits_limit (pos s.visits) e.1.1.0 in
    record {
      place = record { x_range = (coordinate_range s.at.x).0 e.0; y_range = (coordinate_range s.at.y).0 e.1.0 };
      some_visits = v.1;
      most_visits = v.2;
    }

-- ---- numbers in their ranges are those of the line of what they say
pub area_back_lem : (ns : List ℤ) → T (in_ranges (row area).ranges ns) → (area_line (area_of ns)).numbers ≡ ns
area_back_lem ns t = go ns (each_in (row area).ranges ns t)
  where
    go : (ns : List ℤ) → EachIn (row area).ranges ns → (area_line (area_of ns)).numbers ≡ ns
    go (a ∷ []) e = absurd e.1
    go (a ∷ b ∷ []) e = absurd e.1.1
    go (a ∷ b ∷ c ∷ []) e = absurd e.1.1.1
    go (a ∷ b ∷ c ∷ d ∷ []) e = refl
    go (a ∷ b ∷ c ∷ d ∷ other ∷ others) e = absurd e.1.1.1.1
    go [] e = elim e [ ]

pub axis_back_lem : (ns : List ℤ) → T (in_ranges (row axis).ranges ns) → axis_numbers (axis_costs_of ns) ≡ ns
axis_back_lem ns t = go ns (each_in (row axis).ranges ns t)
  where
    go : (ns : List ℤ) → EachIn (row axis).ranges ns → axis_numbers (axis_costs_of ns) ≡ ns
    go (a ∷ []) e = absurd e.1
    go (a ∷ b ∷ []) e = cc ((natural_range 1 axis_cost_limit a e.0).0, (natural_range 1 axis_cost_limit b e.1.0).0)
    go (a ∷ b ∷ other ∷ others) e = absurd e.1.1
    go [] e = elim e [ ]

pub count_back_lem : (most : ℕ) (ns : List ℤ) → T (in_ranges (up_to most ∷ []) ns) → pos (count_of ns) ∷ [] ≡ ns
count_back_lem most ns t = go ns (each_in (up_to most ∷ []) ns t)
  where
    go : (ns : List ℤ) → EachIn (up_to most ∷ []) ns → pos (count_of ns) ∷ [] ≡ ns
    go (n ∷ other ∷ others) e = absurd e.1
    go (n ∷ []) e = ap (λ (z : ℤ). z ∷ []) (sym (natural_range 0 most n e.0).0)
    go [] e = elim e [ ]

pub count_limit : (most : ℕ) (ns : List ℤ) → T (in_ranges (up_to most ∷ []) ns) → count_of ns ≤ most
count_limit most ns t = (count_range most (count_of ns)).0 (subst (λ (l : List ℤ). T (in_ranges (up_to most ∷ []) l)) (sym (count_back_lem most ns t)) t)

pub post_back_lem : (ns : List ℤ) → T (in_ranges (row post).ranges ns) → (post_line (post_of ns)).numbers ≡ ns
post_back_lem ns t = go ns (each_in (row post).ranges ns t)
  where
    go : (ns : List ℤ) → EachIn (row post).ranges ns → (post_line (post_of ns)).numbers ≡ ns
    go (x ∷ []) e = absurd e.1
    go (x ∷ y ∷ []) e = refl
    go (x ∷ y ∷ other ∷ others) e = absurd e.1.1
    go [] e = elim e [ ]

pub stop_back_lem : (ns : List ℤ) → T (in_ranges (row stop).ranges ns) → (stop_line (stop_of ns)).numbers ≡ ns
stop_back_lem ns t = go ns (each_in (row stop).ranges ns t)
  where
    go : (ns : List ℤ) → EachIn (row stop).ranges ns → (stop_line (stop_of ns)).numbers ≡ ns
    go (x ∷ []) e = absurd e.1
    go (x ∷ y ∷ []) e = absurd e.1.1
    go (x ∷ y ∷ v ∷ other ∷ others) e = absurd e.1.1.1
    go (x ∷ y ∷ v ∷ []) e = ap (λ (z : ℤ). x ∷ y ∷ z ∷ []) (sym (natural_range 1 visits_limit v e.1.1.0).0)
    go [] e = elim e [ ]
