-- When a change is not refused, in plain terms: the item is in range, the list is not full, or holds the item and another.
use mathlib.Core.Path.{◌≡◌, refl, sym}
use mathlib.Core.Bool.{Bool, true, false, not, cond}
use mathlib.Core.Logic.{◌↔◌}
use mathlib.Core.List.{List, Memᴰ}
use mathlib.Core.Option.{none, some, none-ne-some}
use Prim.Native.Nat.{ℕ, ◌≤◌, ◌<◌}
use native.Mathlib.Omega.{arith}
use lib.Dec.{T, leb, eqb, leb→le, nleb→lt, eqb→eq, T_not, not_T}
use lib.ListN.{length}
use Rattle.numbers.proofs.Members.{some_non_empty, non_empty_length}
use Rattle.query.specs.Place.{Place}
use Rattle.query.specs.Deck.{Stop, Deck}
use Rattle.query.specs.Range.{PlaceInRange, StopInRange, posts_limit, stops_limit}
use Rattle.job.specs.Spelling.{post_line, stop_line}
use Rattle.job.proofs.RangeLaws.{post_range, stop_range}
use Rattle.job.proofs.JobLaws.{InRanges}
use Rattle.job.proofs.AllowedLaws.{post_in, stop_in_lem}
use Rattle.refusal.specs.declared.Refusal.{Refusal}
use Rattle.refusal.specs.declared.Refusal.TheVariants.{OutOfRange, NoPosts, NoStops, NotHeld, Full}
use Rattle.change.specs.Change.{Change, add_post, remove_post, add_stop, remove_stop, line_in_range, item_line, change_refusal}
use Rattle.change.specs.Meaning.{ItemInRange}
use Rattle.items.specs.Items.{is_same_place, is_same_stop, held}
use Rattle.items.proofs.ItemValues.{same_natural, post_held, stop_held}

-- ---- values in range
post_ranges : (p : Place) → T (line_in_range (post_line p)) ↔ PlaceInRange p
unfolding InRanges
post_ranges p = (post_range p, post_in p)

stop_ranges : (s : Stop) → T (line_in_range (stop_line s)) ↔ StopInRange s
unfolding InRanges
stop_ranges s = (stop_range s, stop_in_lem s)

pub item_ranges : (change : Change) → T (line_in_range (item_line change)) ↔ ItemInRange change
item_ranges (add_post p) = post_ranges p
item_ranges (remove_post p) = post_ranges p
item_ranges (add_stop s) = stop_ranges s
item_ranges (remove_stop s) = stop_ranges s

-- ---- counts
not_full : (most n : ℕ) → T (not (leb most n)) ↔ (n < most)
not_full most n = (nleb→lt most n, λ h. not_T (leb most n) (λ t. omega (arith, leb→le most n t)))

member_length : {A : Type 0} {a : A} (xs : List A) → Memᴰ a xs → 1 ≤ length xs
member_length xs m = non_empty_length xs (some_non_empty xs m)

-- of a list with one element or more: it has another
not_one : (n : ℕ) → 1 ≤ n → T (not (eqb n 1)) ↔ (2 ≤ n)
not_one n h = (
  λ t. go (λ e. T_not (eqb n 1) t ((same_natural n 1).1 e)),
  λ k. not_T (eqb n 1) (λ t. omega (arith, eqb→eq n 1 t)),
)
  where
    go : (n ≡ 1 → ⊥) → 2 ≤ n
    go apart = omega arith

-- ---- conditions one after another, of which none holds
two_none : (a b : Bool) (first second : Refusal) → (cond (not a) (some first) (cond b (some second) none) ≡ none) ↔ (T a × T (not b))
two_none false b first second = (λ e. absurd (none-ne-some first (sym e)), λ t. absurd t.0)
two_none true true first second = (λ e. absurd (none-ne-some second (sym e)), λ t. absurd t.1)
two_none true false first second = (λ e. (tt, tt), λ t. refl)

three_none : (a b c : Bool) (first second third : Refusal) →
    (cond (not a) (some first) (cond (not b) (some second) (cond c (some third) none)) ≡ none) ↔ (T a × T b × T (not c))
three_none false b c first second third = (λ e. absurd (none-ne-some first (sym e)), λ t. absurd t.0)
three_none true false c first second third = (λ e. absurd (none-ne-some second (sym e)), λ t. absurd t.1)
three_none true true true first second third = (λ e. absurd (none-ne-some third (sym e)), λ t. absurd t.2)
three_none true true false first second third = (λ e. (tt, tt, tt), λ t. refl)

-- ---- a change that is made
abbrev pub Allows : Change → Deck → Type 0
Allows (add_post p) deck = PlaceInRange p × (length deck.posts < posts_limit)
Allows (remove_post p) deck = PlaceInRange p × Memᴰ p deck.posts × (2 ≤ length deck.posts)
Allows (add_stop s) deck = StopInRange s × (length deck.stops < stops_limit)
Allows (remove_stop s) deck = StopInRange s × Memᴰ s deck.stops × (2 ≤ length deck.stops)

pub refusal_none : (change : Change) (deck : Deck) → (change_refusal change deck ≡ none) ↔ Allows change deck
unfolding change_refusal
refusal_none (add_post p) deck =
    let tests = two_none (line_in_range (post_line p)) (leb posts_limit (length deck.posts)) (OutOfRange 0) Full in
    let few = not_full posts_limit (length deck.posts) in (
      λ e. let t = tests.0 e in ((post_ranges p).0 t.0, few.0 t.1),
      λ h. tests.1 ((post_ranges p).1 h.0, few.1 h.1),
    )
refusal_none (remove_post p) deck =
    let tests = three_none (line_in_range (post_line p)) (held (is_same_place p) deck.posts) (eqb (length deck.posts) 1) (OutOfRange 0) NotHeld NoPosts in
    let member = post_held p deck.posts in (
      λ e. let t = tests.0 e in
          let m = member.0 t.1 in ((post_ranges p).0 t.0, m, (not_one (length deck.posts) (member_length deck.posts m)).0 t.2),
      λ h. tests.1 ((post_ranges p).1 h.0, member.1 h.1, (not_one (length deck.posts) (omega (arith, h.2))).1 h.2),
    )
refusal_none (add_stop s) deck =
    let tests = two_none (line_in_range (stop_line s)) (leb stops_limit (length deck.stops)) (OutOfRange 0) Full in
    let few = not_full stops_limit (length deck.stops) in (
      λ e. let t = tests.0 e in ((stop_ranges s).0 t.0, few.0 t.1),
      λ h. tests.1 ((stop_ranges s).1 h.0, few.1 h.1),
    )
refusal_none (remove_stop s) deck =
    let tests = three_none (line_in_range (stop_line s)) (held (is_same_stop s) deck.stops) (eqb (length deck.stops) 1) (OutOfRange 0) NotHeld NoStops in
    let member = stop_held s deck.stops in (
      λ e. let t = tests.0 e in
          let m = member.0 t.1 in ((stop_ranges s).0 t.0, m, (not_one (length deck.stops) (member_length deck.stops m)).0 t.2),
      λ h. tests.1 ((stop_ranges s).1 h.0, member.1 h.1, (not_one (length deck.stops) (omega (arith, h.2))).1 h.2),
    )
