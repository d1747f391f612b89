-- Which refusal a change meets, in plain terms: the first whose condition holds, exactly.
use mathlib.Core.Path.{◌≡◌, refl, sym, ap, subst, ◌∙◌}
use mathlib.Core.Bool.{Bool, true, false, not, cond}
use mathlib.Core.Logic.{◌↔◌}
use mathlib.Core.List.Memᴰ
use mathlib.Core.List.{List, [], ◌∷◌, Memᴰ}
use mathlib.Core.Option.{Option, none, some, none-ne-some, some-injective}
use native.Mathlib.Omega.{arith}
use lib.Dec.{T, leb, eqb, leb→le, le→leb, T_not, not_T}
use lib.ListN.{length}
use Rattle.numbers.proofs.Members.{each_cons}
use Rattle.numbers.proofs.Truth.{cond-true, cond-false}
use Rattle.query.specs.Deck.{Deck}
use Rattle.query.specs.Range.{posts_limit, stops_limit}
use Rattle.refusal.specs.declared.Refusal.{Refusal}
use Rattle.refusal.specs.declared.Refusal.TheVariants.{OutOfRange, NoPosts, NoStops, NotHeld, Full}
use Rattle.items.specs.Items.{is_same_place, is_same_stop, held}
use Rattle.items.proofs.ItemValues.{same_natural, post_held, stop_held}
use Rattle.change.specs.Change.{Change, add_post, remove_post, add_stop, remove_stop, line_in_range, item_line, list_conditions}
use Rattle.change.specs.Change.{first_refusal, change_refusal}
use Rattle.change.specs.Meaning.{ItemInRange, ChangeApplies, out_of_range, no_such_post, no_such_stop, only_post, only_stop, posts_full, stops_full}
use Rattle.change.proofs.Conditions.{item_ranges}

-- ---- conditions one after another
both_not : (b : Bool) → T (not (not b)) ↔ T b
both_not true = (λ t. tt, λ t. tt)
both_not false = (λ t. t, λ t. t)

-- what holds of a refusal, by the first condition
by_first : (P : Refusal → Type 0) (b : Bool) (first : Refusal) {rest : Option Refusal} {why : Refusal} → (T b → P first) →
    (T (not b) → rest ≡ some why → P why) → cond b (some first) rest ≡ some why → P why
by_first P true first {why = why} hit past e = subst P (some-injective first why e) (hit tt)
by_first P false first hit past e = past tt e

none_left : {C : Type 0} {why : Refusal} → ◌≡◌ {A = Option Refusal} none (some why) → C
none_left {why = why} e = absurd (none-ne-some why e)

-- ---- a list with one element
one_member : {A : Type 0} (x : A) (xs : List A) → Memᴰ x xs → length xs ≡ 1 → xs ≡ x ∷ []
one_member x [] m e = absurd (Memᴰ.not-nil m)
one_member x (y ∷ []) m e = each_cons (λ z. z ≡ x → y ∷ [] ≡ x ∷ []) (λ f. ap (λ z. z ∷ []) f) (λ z n. absurd (Memᴰ.not-nil n)) x m refl
one_member x (y ∷ z ∷ zs) m e = absurd (omega arith)

its_member : {A : Type 0} {x : A} {xs : List A} → xs ≡ x ∷ [] → Memᴰ x xs
its_member {A} {x} e = subst (λ l. Memᴰ x l) (sym e) (Memᴰ.head refl)

-- ---- a change that is refused: 3, then 10 or 9, then 5 or 6
module _ (deck : Deck) where
  by_lists : (change : Change) {why : Refusal} → ItemInRange change → first_refusal (list_conditions change deck) ≡ some why → ChangeApplies deck change why
  by_lists (add_post p) i = by_first (ChangeApplies deck (add_post p)) (leb posts_limit (length deck.posts)) Full
      (λ t. posts_full i (leb→le posts_limit (length deck.posts) t)) (λ t. none_left)
  by_lists (remove_post p) i = by_first (ChangeApplies deck (remove_post p)) (not (held (is_same_place p) deck.posts)) NotHeld
      (λ t. no_such_post i (λ m. T_not (held (is_same_place p) deck.posts) t ((post_held p deck.posts).1 m)))
      (λ t. by_first (ChangeApplies deck (remove_post p)) (eqb (length deck.posts) 1) NoPosts
      (λ u. only_post i (one_member p deck.posts ((post_held p deck.posts).0 ((both_not _).0 t)) ((same_natural (length deck.posts) 1).0 u))) (λ u. none_left))
  by_lists (add_stop s) i = by_first (ChangeApplies deck (add_stop s)) (leb stops_limit (length deck.stops)) Full
      (λ t. stops_full i (leb→le stops_limit (length deck.stops) t)) (λ t. none_left)
  by_lists (remove_stop s) i = by_first (ChangeApplies deck (remove_stop s)) (not (held (is_same_stop s) deck.stops)) NotHeld
      (λ t. no_such_stop i (λ m. T_not (held (is_same_stop s) deck.stops) t ((stop_held s deck.stops).1 m)))
      (λ t. by_first (ChangeApplies deck (remove_stop s)) (eqb (length deck.stops) 1) NoStops
      (λ u. only_stop i (one_member s deck.stops ((stop_held s deck.stops).0 ((both_not _).0 t)) ((same_natural (length deck.stops) 1).0 u))) (λ u. none_left))

  applies : (change : Change) {why : Refusal} → change_refusal change deck ≡ some why → ChangeApplies deck change why
  unfolding change_refusal
  applies change = by_first (ChangeApplies deck change) (not (line_in_range (item_line change))) (OutOfRange 0)
      (λ t. out_of_range (λ i. T_not (line_in_range (item_line change)) t ((item_ranges change).1 i)))
      (λ t. by_lists change ((item_ranges change).0 ((both_not _).0 t)))

  in_lists : (change : Change) → ItemInRange change → change_refusal change deck ≡ first_refusal (list_conditions change deck)
  unfolding change_refusal
  in_lists change i = cond-false (not (line_in_range (item_line change))) _ _ ((both_not _).1 ((item_ranges change).1 i))

  applied : {change : Change} {why : Refusal} → ChangeApplies deck change why → change_refusal change deck ≡ some why
  unfolding change_refusal
  applied {change = change} (out_of_range n) = cond-true (not (line_in_range (item_line change))) _ _
      (not_T (line_in_range (item_line change)) (λ t. n ((item_ranges change).0 t)))
  applied (no_such_post {p} i n) = in_lists (remove_post p) i ∙ cond-true (not (held (is_same_place p) deck.posts)) _ _
      (not_T (held (is_same_place p) deck.posts) (λ t. n ((post_held p deck.posts).0 t)))
  applied (no_such_stop {s} i n) = in_lists (remove_stop s) i ∙ cond-true (not (held (is_same_stop s) deck.stops)) _ _
      (not_T (held (is_same_stop s) deck.stops) (λ t. n ((stop_held s deck.stops).0 t)))
  applied (only_post {p} i e) = in_lists (remove_post p) i
      ∙ cond-false (not (held (is_same_place p) deck.posts)) _ _ ((both_not _).1 ((post_held p deck.posts).1 (its_member e)))
      ∙ cond-true (eqb (length deck.posts) 1) _ _ ((same_natural (length deck.posts) 1).1 (ap length e))
  applied (only_stop {s} i e) = in_lists (remove_stop s) i
      ∙ cond-false (not (held (is_same_stop s) deck.stops)) _ _ ((both_not _).1 ((stop_held s deck.stops).1 (its_member e)))
      ∙ cond-true (eqb (length deck.stops) 1) _ _ ((same_natural (length deck.stops) 1).1 (ap length e))
  applied (posts_full {p} i h) = in_lists (add_post p) i ∙ cond-true (leb posts_limit (length deck.posts)) _ _ (le→leb posts_limit (length deck.posts) h)
  applied (stops_full {s} i h) = in_lists (add_stop s) i ∙ cond-true (leb stops_limit (length deck.stops)) _ _ (le→leb stops_limit (length deck.stops) h)

pub refusal_some : (change : Change) (deck : Deck) (why : Refusal) → (change_refusal change deck ≡ some why) ↔ ChangeApplies deck change why
refusal_some change deck why = (applies deck change, applied deck)
