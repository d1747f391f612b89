-- What a change answers: first that its values or the record are out of range, then by the tests of the code in their order.
use mathlib.Core.Path.{◌≡◌, refl, sym, ap, subst, ◌∙◌}
use mathlib.Core.Bool.{Bool, true, false, not, cond, ◌&&◌}
use mathlib.Core.List.{List, map}
use mathlib.Core.Option.{Option, none, some, none-ne-some}
use Prim.Native.Nat.{ℕ, ◌-◌, ◌≤◌, ◌<◌}
use native.Mathlib.Omega.{arith}
use lib.Dec.{T, leb, ltb, eqb, le→leb, leb→le, ltb→lt, eqb→eq, not_T}
use lib.ListN.{length, take}
use Rattle.std.specs.Prelude as Std
use Rattle.std.specs.Prelude.{Ok, Err, Some, None, IsErrAnd}
use Rattle.std.specs.Option.{ok_or}
use Rattle.std.proofs.lemmas.Option.{none-some, same_Some}
use Rattle.numbers.proofs.Truth.{cond-true, cond-false}
use Rattle.query.specs.Deck as Query
use Rattle.deck.specs.declared.Deck.{Deck}
use Rattle.deck.specs.declared.Place.{Place}
use Rattle.deck.specs.declared.Stop.{Stop}
use Rattle.deck.specs.DeckOf.{deck_of}
use Rattle.deck.specs.Values.{place_of, stop_of, no_stop}
use Rattle.job_line.proofs.LineLaws.{ok_or_some, ok_or_none}
use Rattle.job.proofs.PartLaws.{handed}
use Rattle.refusal.specs.declared.Refusal.{Refusal}
use Rattle.refusal.specs.declared.Refusal.TheVariants.{OutOfRange, NotHeld, Full}
use Rattle.items.specs.Items.{is_same_stop, held, first_place, first_found, taken_out_at}
use Rattle.items.proofs.FirstPlace.{held_place}
use Rattle.change.specs.Change.{Change, remove_stop, line_in_range, item_line, list_conditions, conditions, first_refusal, change_refusal}
use Rattle.change.specs.ChangedRecord.{usable, with_stop_list, altered_record, record_refusal, Changed, changed_record}
use Rattle.change.proofs.Answered.{answer_refused, answer_made}

-- ---- what is refused of a change whose values are in range
abbrev later : Change → Query.Deck → Option Refusal
later change deck = first_refusal (list_conditions change deck)

-- so many items are held
abbrev adding : ℕ → ℕ → Option Refusal
adding most n = cond (leb most n) (some Full) none

abbrev removing : Bool → ℕ → Refusal → Option Refusal
removing found n why = cond (not found) (some NotHeld) (cond (eqb n 1) (some why) none)

pub full : (most n : ℕ) → most ≤ n → adding most n ≡ some Full
full most n h = cond-true (leb most n) _ _ (le→leb most n h)

pub room : (most n : ℕ) → n < most → adding most n ≡ none
room most n h = cond-false (leb most n) _ _ (not_T (leb most n) (λ t. omega (arith, leb→le most n t)))

module _ {found : Bool} (n : ℕ) (why : Refusal) where
  pub absent : found ≡ false → removing found n why ≡ some NotHeld
  absent e = rw e

  pub only : found ≡ true → n ≡ 1 → removing found n why ≡ some why
  only e f = rw (e, f)

  pub others : found ≡ true → (n ≡ 1 → ⊥) → removing found n why ≡ none
  others e f = rw e (cond-false (eqb n 1) _ _ (not_T (eqb n 1) (λ t. f (eqb→eq n 1 t))))

-- ---- values in range
-- 3 where the record cannot be changed or the values are out of range, and else what is left
abbrev tested : Bool → Bool → Option Refusal → Option Refusal
tested can ranged rest = cond can (cond (not ranged) (some (OutOfRange 0)) rest) (some (OutOfRange 0))

-- what the first test says where it passes: the values are in range, and the record can be changed
pub record Ranged (change : Change) (deck : Deck) : Type 0 where
  pub can : T (usable deck)
  pub ranged : T (line_in_range (item_line change))
  pub refusal : record_refusal change deck ≡ later change (deck_of deck)

module _ (change : Change) (deck : Deck) where
  refusal_is : record_refusal change deck ≡ tested (usable deck) (line_in_range (item_line change)) (later change (deck_of deck))
  unfolding record_refusal change_refusal conditions
  refusal_is = refl

  pub out_of_range : {b : Bool} → b ≡ line_in_range (item_line change) → {why : Refusal} → some why ≡ cond (b && usable deck) none (some (OutOfRange 0)) →
      (r : Std.Result (Unit {0}) Refusal) → IsErrAnd r (λ e. e ≡ why) →
      ◌≡◌ {A = Changed} (record { answer = r; deck = deck }) (changed_record change deck)
  out_of_range {b} e {why} f r g = rw (handed r g) (sym (answer_refused change deck (refusal_is ∙ rw (← e) (go b (usable deck) f _))))
    where
      go : (s t : Bool) → some why ≡ cond (s && t) none (some (OutOfRange 0)) → (rest : Option Refusal) → tested t s rest ≡ some why
      go true true h rest = absurd (none-ne-some why (sym h))
      go true false h rest = sym h
      go false true h rest = sym h
      go false false h rest = sym h

  pub within : {b : Bool} → b ≡ line_in_range (item_line change) → none ≡ cond (b && usable deck) none (some (OutOfRange 0)) → Ranged change deck
  within {b} e f =
      let t = go b (usable deck) f in
      record { can = t.1; ranged = subst T e t.0; refusal = refusal_is ∙ rw (← e) (t.2 _) }
    where
      go : (s t : Bool) → none ≡ cond (s && t) none (some (OutOfRange 0)) → T s × T t × ((rest : Option Refusal) → tested t s rest ≡ rest)
      go true true h = (tt, tt, λ rest. refl)
      go true false h = absurd (none-ne-some (OutOfRange 0) h)
      go false t h = absurd (none-ne-some (OutOfRange 0) h)

module _ {change : Change} {deck : Deck} (ok : Ranged change deck) where
  pub refused : {why : Refusal} → later change (deck_of deck) ≡ some why →
      ◌≡◌ {A = Changed} (record { answer = Err why; deck = deck }) (changed_record change deck)
  refused e = sym (answer_refused change deck (ok.refusal ∙ e))

  pub made : later change (deck_of deck) ≡ none → {next : Deck} → next ≡ altered_record change deck →
      ◌≡◌ {A = Changed} (record { answer = Ok tt; deck = next }) (changed_record change deck)
  made e f = rw f (sym (answer_made change deck (ok.refusal ∙ e)))

-- ---- an item that was looked for: whether it is held, and where
module _ {A : Type 0} (same : A → Bool) (xs : List A) (why : Refusal) {o : Std.Option ℕ} (e : o ≡ first_found same xs) where
  pub not_found : {w : Refusal} → Err w ≡ ok_or o why → (held same xs ≡ false) × (w ≡ why)
  not_found f =
      let none = ok_or_none o (sym f) in
      (go (held same xs) (first_place same xs) (sym e ∙ none.0), none.1)
    where
      go : (b : Bool) (n : ℕ) → cond b (Some n) None ≡ None → b ≡ false
      go true n h = absurd (none-some n (sym h))
      go false n h = refl

  pub is_found : {i : ℕ} → Ok i ≡ ok_or o why → (held same xs ≡ true) × (i ≡ first_place same xs) × (i < length xs)
  is_found {i} f = go (held same xs) (held_place same xs) (sym e ∙ ok_or_some o why (sym f))
    where
      go : (b : Bool) → b ≡ ltb (first_place same xs) (length xs) → cond b (Some (first_place same xs)) None ≡ Some i →
          (b ≡ true) × (i ≡ first_place same xs) × (i < length xs)
      go true p h =
          let n = same_Some (first_place same xs) i h in
          (refl, sym n, subst (λ (m : ℕ). m < length xs) n (ltb→lt (first_place same xs) (length xs) (subst T p tt)))
      go false p h = absurd (none-some i h)

module _ (deck : Deck) where
  -- in the first posts, and in the first stops
  pub posts_in : {posts : List Place} → posts ≡ take deck.post_count deck.posts → map place_of posts ≡ (deck_of deck).posts
  unfolding deck_of
  posts_in e = ap (map place_of) e

  pub stops_in : {stops : List Stop} → stops ≡ take deck.stop_count deck.stops → map stop_of stops ≡ (deck_of deck).stops
  unfolding deck_of
  stops_in e = ap (map stop_of) e

-- the record without stop i
pub without_stop : (deck : Deck) (s : Query.Stop) {i : ℕ} → i ≡ first_place (is_same_stop s) (deck_of deck).stops → {next : Deck} →
    next ≡ with_stop_list deck (deck.stop_count - 1) (taken_out_at deck.stop_count i no_stop deck.stops) (taken_out_at deck.stop_count i 0 deck.near) →
    next ≡ altered_record (remove_stop s) deck
unfolding altered_record
without_stop deck s e f = rw e at f
