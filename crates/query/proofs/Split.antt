-- A cell and its two parts, told once for both axes: points, edges, corners and lines of the parts are those of the cell and of the cut.
use mathlib.Core.Path.{◌≡◌, refl, sym, subst, ◌∙◌}
use mathlib.Core.Bool.{not}
use mathlib.Core.Logic.{◌⊎◌, inl, inr, ⊎_elim}
use mathlib.Core.List.{[], ◌∷◌, Memᴰ}
use native.Mathlib.Omega.{arith}
use lib.Dec.{T}
use lib.IntN.{ℤ}
use lib.Signed.{le_z, ◌≤ℤ◌, ◌<ℤ◌}
use Rattle.numbers.proofs.Truth.{test}
use Rattle.numbers.proofs.Integer.{order}
use Rattle.query.specs.Place.{Place, Rect, In, NonEmpty, Axis, x_axis, y_axis, coordinate, low_edge, high_edge}
use Rattle.query.specs.Cut.{cut_before, cut_after, new_corners}
use Rattle.query.proofs.Axes.{for_both, Along, along, along_in, edges_in, edges_non_empty, place_eq, other, cut_or_other}

-- p is on an edge of r along an axis; a corner is on an edge along both
abbrev pub OnEdge : Rect → Place → Axis → Type 0
OnEdge r p axis = (coordinate axis p ≡ low_edge axis r) ⊎ (coordinate axis p ≡ high_edge axis r)

abbrev pub Corner : Rect → Place → Type 0
Corner r p = (axis : Axis) → OnEdge r p axis

pub corner_in : (r : Rect) (p : Place) → NonEmpty r → Corner r p → In r p
corner_in r p h c = along_in r p (λ axis. ⊎_elim (λ e. at_low axis e) (λ e. at_high axis e) (c axis))
  where
    at_low : (axis : Axis) → coordinate axis p ≡ low_edge axis r → Along r p axis
    at_low axis e = let k : low_edge axis r ≤ℤ high_edge axis r = edges_in h axis in (omega (arith, order), omega (arith, order))

    at_high : (axis : Axis) → coordinate axis p ≡ high_edge axis r → Along r p axis
    at_high axis e = let k : low_edge axis r ≤ℤ high_edge axis r = edges_in h axis in (omega (arith, order), omega (arith, order))

-- ---- the edges of the parts
-- the first part is r but for its high edge, the second but for its low edge, which are the cut
pub record Parts (cut : Axis) (v : ℤ) (r first second : Rect) : Type 0 where
  pub first_low : low_edge cut first ≡ low_edge cut r
  pub first_high : high_edge cut first ≡ v
  pub second_low : low_edge cut second ≡ v
  pub second_high : high_edge cut second ≡ high_edge cut r
  pub first_low_other : low_edge (other cut) first ≡ low_edge (other cut) r
  pub first_high_other : high_edge (other cut) first ≡ high_edge (other cut) r
  pub second_low_other : low_edge (other cut) second ≡ low_edge (other cut) r
  pub second_high_other : high_edge (other cut) second ≡ high_edge (other cut) r

pub parts : (cut : Axis) (v : ℤ) (r : Rect) → Parts cut v r (cut_before cut v r) (cut_after cut v r)
unfolding other
parts x_axis v r = record {
  first_low = refl;
  first_high = refl;
  second_low = refl;
  second_high = refl;
  first_low_other = refl;
  first_high_other = refl;
  second_low_other = refl;
  second_high_other = refl;
}
parts y_axis v r = record {
  first_low = refl;
  first_high = refl;
  second_low = refl;
  second_high = refl;
  first_low_other = refl;
  first_high_other = refl;
  second_low_other = refl;
  second_high_other = refl;
}

-- a point of the cell is in one of the parts
pub split_point : (cut : Axis) (v : ℤ) (r first second : Rect) → Parts cut v r first second → (p : Place) → In r p → In first p ⊎ In second p
split_point cut v r first second split p h = ⊎_elim (λ t. inl (along_in first p (cut_or_other (Along first p) cut (before t) first_other)))
    (λ t. inr (along_in second p (cut_or_other (Along second p) cut (after t) second_other))) (test (le_z (coordinate cut p) v))
  where
    first_other : Along first p (other cut)
    first_other = rw (split.first_low_other, split.first_high_other) (along h (other cut))

    second_other : Along second p (other cut)
    second_other = rw (split.second_low_other, split.second_high_other) (along h (other cut))

    before : T (le_z (coordinate cut p) v) → Along first p cut
    before t = rw (split.first_low, split.first_high) ((along h cut).0, record { le = t })

    after : T (not (le_z (coordinate cut p) v)) → Along second p cut
    after t = rw (split.second_low, split.second_high) (omega (arith, order), (along h cut).1)

-- ---- what holds of either part
-- q is r but for its edges along the cut axis, which are r's or the cut
pub record PartOf (cut : Axis) (v : ℤ) (r q : Rect) : Type 0 where
  pub low_is : (low_edge cut q ≡ low_edge cut r) ⊎ (low_edge cut q ≡ v)
  pub high_is : (high_edge cut q ≡ high_edge cut r) ⊎ (high_edge cut q ≡ v)
  pub ordered : low_edge cut q ≤ℤ high_edge cut q
  pub low_other : low_edge (other cut) q ≡ low_edge (other cut) r
  pub high_other : high_edge (other cut) q ≡ high_edge (other cut) r

module _ (cut : Axis) (v : ℤ) (r : Rect) (above : low_edge cut r <ℤ v) (under : v <ℤ high_edge cut r) where
  pub first_part : (first second : Rect) → Parts cut v r first second → PartOf cut v r first
  first_part first second s = record {
    low_is = inl s.first_low;
    high_is = inr s.first_high;
    ordered = rw (s.first_low, s.first_high) (omega (arith, order));
    low_other = s.first_low_other;
    high_other = s.first_high_other;
  }

  pub second_part : (first second : Rect) → Parts cut v r first second → PartOf cut v r second
  second_part first second s = record {
    low_is = inr s.second_low;
    high_is = inl s.second_high;
    ordered = rw (s.second_low, s.second_high) (omega (arith, order));
    low_other = s.second_low_other;
    high_other = s.second_high_other;
  }

  module _ (q : Rect) (part : PartOf cut v r q) (full : NonEmpty r) where
    pub part_non_empty : NonEmpty q
    part_non_empty = edges_non_empty q (cut_or_other (λ axis. low_edge axis q ≤ℤ high_edge axis q) cut part.ordered
        (rw (part.low_other, part.high_other) (edges_in full (other cut))))

    -- the edges of a part lie between those of the cell
    abbrev Between : ℤ → Axis → Type 0
    Between z axis = (low_edge axis r ≤ℤ z) × (z ≤ℤ high_edge axis r)

    at_cut : (z : ℤ) → z ≡ v → Between z cut
    at_cut z e = (omega (arith, order), omega (arith, order))

    low_between : (axis : Axis) → Between (low_edge axis q) axis
    low_between = cut_or_other (λ axis. Between (low_edge axis q) axis) cut (⊎_elim same (at_cut (low_edge cut q)) part.low_is) (at_other part.low_other)
      where
        same : low_edge cut q ≡ low_edge cut r → Between (low_edge cut q) cut
        same e = (omega (arith, order), omega (arith, order))

        at_other : low_edge (other cut) q ≡ low_edge (other cut) r → Between (low_edge (other cut) q) (other cut)
        at_other e = let k : low_edge (other cut) r ≤ℤ high_edge (other cut) r = edges_in full (other cut) in (omega (arith, order), omega (arith, order))

    high_between : (axis : Axis) → Between (high_edge axis q) axis
    high_between = cut_or_other (λ axis. Between (high_edge axis q) axis) cut (⊎_elim same (at_cut (high_edge cut q)) part.high_is)
        (at_other part.high_other)
      where
        same : high_edge cut q ≡ high_edge cut r → Between (high_edge cut q) cut
        same e = (omega (arith, order), omega (arith, order))

        at_other : high_edge (other cut) q ≡ high_edge (other cut) r → Between (high_edge (other cut) q) (other cut)
        at_other e = let k : low_edge (other cut) r ≤ℤ high_edge (other cut) r = edges_in full (other cut) in (omega (arith, order), omega (arith, order))

    pub part_low_in : In r (record { x = q.xlo; y = q.ylo })
    part_low_in = along_in r (record { x = q.xlo; y = q.ylo })
        (for_both (Along r (record { x = q.xlo; y = q.ylo })) (low_between x_axis) (low_between y_axis))

    pub part_high_in : In r (record { x = q.xhi; y = q.yhi })
    part_high_in = along_in r (record { x = q.xhi; y = q.yhi })
        (for_both (Along r (record { x = q.xhi; y = q.yhi })) (high_between x_axis) (high_between y_axis))

    -- a point of a part is a point of the cell
    pub part_point : (p : Place) → In q p → In r p
    part_point p h = along_in r p (λ axis. widen axis (along h axis) (low_between axis) (high_between axis))
      where
        widen : (axis : Axis) → Along q p axis → Between (low_edge axis q) axis → Between (high_edge axis q) axis → Along r p axis
        widen axis k l m = (omega (arith, order), omega (arith, order))

    -- what holds of the cell's edges and of the cut holds of a part's edges
    pub part_edges : (Q : Axis → ℤ → Type 0) → ((axis : Axis) → Q axis (low_edge axis r)) → ((axis : Axis) → Q axis (high_edge axis r)) → Q cut v →
        (axis : Axis) → Q axis (low_edge axis q) × Q axis (high_edge axis q)
    part_edges Q low high at-v = cut_or_other (λ axis. Q axis (low_edge axis q) × Q axis (high_edge axis q)) cut
        (⊎_elim (λ e. rw e (low cut)) (λ e. rw e at-v) part.low_is, ⊎_elim (λ e. rw e (high cut)) (λ e. rw e at-v) part.high_is)
        (rw part.low_other (low (other cut)), rw part.high_other (high (other cut)))

-- ---- the new corners
-- the two places where the cut meets the edges of the cell along the other axis
pub record NewCorners (cut : Axis) (v : ℤ) (r : Rect) : Type 0 where
  pub low : Place
  pub high : Place
  pub are : new_corners cut v r ≡ low ∷ high ∷ []
  pub low_on : coordinate cut low ≡ v
  pub high_on : coordinate cut high ≡ v
  pub low_at : coordinate (other cut) low ≡ low_edge (other cut) r
  pub high_at : coordinate (other cut) high ≡ high_edge (other cut) r

new_corners_lem : (cut : Axis) (v : ℤ) (r : Rect) → NewCorners cut v r
unfolding other
new_corners_lem x_axis v r = record {
  low = record { x = v; y = r.ylo };
  high = record { x = v; y = r.yhi };
  are = refl;
  low_on = refl;
  high_on = refl;
  low_at = refl;
  high_at = refl;
}
new_corners_lem y_axis v r = record {
  low = record { x = r.xlo; y = v };
  high = record { x = r.xhi; y = v };
  are = refl;
  low_on = refl;
  high_on = refl;
  low_at = refl;
  high_at = refl;
}

-- a new corner lies on the cut, and on an edge of the cell along the other axis
pub record OnCut (cut : Axis) (v : ℤ) (r : Rect) (p : Place) : Type 0 where
  pub on_line : coordinate cut p ≡ v
  pub on_edge : OnEdge r p (other cut)

pub new_corner_on : (cut : Axis) (v : ℤ) (r : Rect) (p : Place) → Memᴰ p (new_corners cut v r) → OnCut cut v r p
new_corner_on cut v r p m = go (new_corners_lem cut v r)
  where
    at : (q : Place) → p ≡ q → OnCut cut v r q → OnCut cut v r p
    at q e = subst (OnCut cut v r) (sym e)

    one : (a b : Place) → OnCut cut v r a → OnCut cut v r b → Memᴰ p (a ∷ b ∷ []) → OnCut cut v r p
    one a b h k (Memᴰ.head e) = at a e h
    one a b h k (Memᴰ.tail (Memᴰ.head e)) = at b e k
    one a b h k (Memᴰ.tail (Memᴰ.tail x8)) = elim x8 [ ]

    go : NewCorners cut v r → OnCut cut v r p
    go n = one n.low n.high (record { on_line = n.low_on; on_edge = inl n.low_at }) (record { on_line = n.high_on; on_edge = inr n.high_at })
        (subst (Memᴰ p) n.are m)

pub on_new_corner : (cut : Axis) (v : ℤ) (r : Rect) (p : Place) → OnCut cut v r p → Memᴰ p (new_corners cut v r)
on_new_corner cut v r p h = go (new_corners_lem cut v r)
  where
    same : (q : Place) → coordinate cut q ≡ v → coordinate (other cut) p ≡ coordinate (other cut) q → p ≡ q
    same q e f = place_eq p q (cut_or_other (λ axis. coordinate axis p ≡ coordinate axis q) cut (h.on_line ∙ sym e) f)

    go : NewCorners cut v r → Memᴰ p (new_corners cut v r)
    go n = subst (Memᴰ p) (sym n.are) (⊎_elim (λ e. Memᴰ.head (same n.low n.low_on (e ∙ sym n.low_at)))
        (λ e. Memᴰ.tail (Memᴰ.head (same n.high n.high_on (e ∙ sym n.high_at)))) h.on_edge)

-- a corner of a part is a corner of the cell or a new corner
pub part_corner : (cut : Axis) (v : ℤ) (r q : Rect) → PartOf cut v r q → (p : Place) → Corner q p → Corner r p ⊎ Memᴰ p (new_corners cut v r)
part_corner cut v r q part p c = ⊎_elim (λ e. ⊎_elim (λ f. inl (old (inl (e ∙ f)))) (λ f. new (e ∙ f)) part.low_is)
    (λ e. ⊎_elim (λ f. inl (old (inr (e ∙ f)))) (λ f. new (e ∙ f)) part.high_is) (c cut)
  where
    edge : OnEdge r p (other cut)
    edge = ⊎_elim (λ e. inl (e ∙ part.low_other)) (λ e. inr (e ∙ part.high_other)) (c (other cut))

    old : OnEdge r p cut → Corner r p
    old e = cut_or_other (OnEdge r p) cut e edge

    new : coordinate cut p ≡ v → Corner r p ⊎ Memᴰ p (new_corners cut v r)
    new e = inr (on_new_corner cut v r p (record { on_line = e; on_edge = edge }))
