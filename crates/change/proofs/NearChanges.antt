-- near of a stop with one more post, and with one less.
use mathlib.Core.Path.{◌≡◌, refl, sym, ap, ◌∙◌}
use mathlib.Core.Bool.{not, cond}
use mathlib.Core.List.{List, [], ◌∷◌, ◌++◌}
use Prim.Native.Nat.{ℕ, ◌≤◌, min}
use native.Mathlib.Omega.{arith}
use lib.Dec.{T, ltb, eqb, ltb→lt, nltb→le, T_not, not_T}
use lib.ListN.{length}
use Rattle.numbers.proofs.Truth.{cond_ind}
use Rattle.numbers.proofs.Members.{length_non_empty}
use Rattle.query.specs.Place.{Place}
use Rattle.query.specs.Deck.{AxisCosts}
use Rattle.query.specs.Travel.{travel, closest}
use Rattle.query.proofs.NearLaws.{closest_some, closest_least}
use Rattle.columns.proofs.ClosestLaws.{closest_snoc}
use Rattle.items.specs.Items.{is_same_place, remove_first}
use Rattle.near_change.specs.NearChange.{near_with, near_without}
use Rattle.items.proofs.FirstRemoved.{removed_least, removed_from, removed_keeps}
use Rattle.items.proofs.ItemValues.{same_natural, same_place}

smaller : (m n : ℕ) → min m n ≡ cond (ltb n m) n m
smaller m n = cond_ind (λ (r : ℕ). min m n ≡ r) (ltb n m) (λ t. omega (arith, ltb→lt n m t)) (λ t. omega (arith, nltb→le n m t))

module _ (axis : AxisCosts) (q : Place) where
  -- ---- one more post
  closest_added : (posts : List Place) (p : Place) → 1 ≤ length posts → min (closest axis q posts) (travel axis q p) ≡ closest axis q (posts ++ (p ∷ []))
  closest_added posts p h = smaller (closest axis q posts) (travel axis q p) ∙ sym (closest_snoc axis q posts p h)

  pub near_added : (posts : List Place) (p : Place) → 1 ≤ length posts → near_with axis p q (closest axis q posts) ≡ closest axis q (posts ++ (p ∷ []))
  unfolding near_with
  near_added posts p h = closest_added posts p h

  -- ---- one less: the first at p, of two or more
  module _ (posts : List Place) (p : Place) (h : 2 ≤ length posts) where
    abbrev left : List Place
    left = remove_first (is_same_place p) posts

    -- some posts are left, all of them of those there were
    no_closer : closest axis q posts ≤ closest axis q left
    no_closer =
        let (post, m, e) = closest_some axis q left (length_non_empty left (omega (arith, removed_least (is_same_place p) posts))) in
        omega (arith, e, closest_least axis q posts post (removed_from (is_same_place p) posts m))

    -- a post that is closest and not at p is left
    as_close : (closest axis q posts ≡ travel axis q p → ⊥) → closest axis q left ≤ closest axis q posts
    as_close apart =
        let (post, m, e) = closest_some axis q posts (length_non_empty posts (omega arith)) in
        let other : T (not (is_same_place p post)) = not_T (is_same_place p post) (λ t. apart (e ∙ ap (travel axis q) (sym (same_place p post t)))) in
        omega (arith, e, closest_least axis q left post (removed_keeps (is_same_place p) posts m other))

    closest_removed : (closest axis q posts ≡ travel axis q p → ⊥) → closest axis q (remove_first (is_same_place p) posts) ≡ closest axis q posts
    closest_removed apart = omega (arith, no_closer, as_close apart)

    pub near_removed : near_without axis p (remove_first (is_same_place p) posts) q (closest axis q posts)
        ≡ closest axis q (remove_first (is_same_place p) posts)
    unfolding near_without
    near_removed = cond_ind (λ (n : ℕ). n ≡ closest axis q (remove_first (is_same_place p) posts)) (eqb (closest axis q posts) (travel axis q p)) (λ t. refl)
        (λ t. sym (closest_removed (λ e. T_not (eqb (closest axis q posts) (travel axis q p)) t ((same_natural (closest axis q posts) (travel axis q p)).1 e))))
