-- What a change of a deck's record is held to.
use mathlib.Core.Path.{◌≡◌, refl, sym, ap, subst, ◌∙◌}
use mathlib.Core.Bool.{Bool, not, cond}
use mathlib.Core.Logic.{◌↔◌, ⊎_elim}
use mathlib.Core.List.{List, [], ◌∷◌, Memᴰ}
use mathlib.Core.Option.{Option, none, some, none-ne-some, some-injective}
use Prim.Native.Nat.{ℕ, ◌≤◌, ◌<◌}
use lib.Dec.{T}
use lib.ListN.{get_or}
use Rattle.numbers.proofs.Truth.{test, fails}
use Rattle.query.specs.Deck as Query
use Rattle.query.specs.Range.{travel_limit}
use Rattle.deck.specs.DeckOf.{Sized, deck_of, deck_record}
use Rattle.deck.specs.Sound.{Sound}
use Rattle.deck.specs.declared.Deck.{Deck}
use Rattle.refusal.specs.Refusal.{number_of, line_of}
use Rattle.refusal.specs.declared.Refusal.{Refusal}
use Rattle.refusal.specs.declared.Refusal.TheVariants.{OutOfRange}
use Rattle.change.specs.Change.{Change, add_post, remove_post, add_stop, remove_stop, altered, change_refusal, unless_refused}
use Rattle.change.specs.ChangedRecord.{usable, altered_record, record_refusal, answered, changed_record}
use Rattle.change.specs.Meaning.{ChangeApplies, out_of_range, no_such_post, no_such_stop, only_post, only_stop, posts_full, stops_full, Leaves}
use Rattle.change.proofs.Conditions.{refusal_none}
use Rattle.change.proofs.Refusals.{refusal_some}
use Rattle.change.proofs.AlteredLaws.{unless_ind}
use Rattle.change.proofs.Answered.{when_usable, answer_made}
use Rattle.change.proofs.ChangedLaws.{changed_sound, made_answer}
use Rattle.change.proofs.KeptLaws.{deck_of_altered, kept}
use Rattle.change.proofs.LeftLists.{leaves_altered}
use Rattle.change.proofs.UsableExactly.{usable_exactly, sound_usable}
use Rattle.calls.specs.Answers.{AnswerOf, gives, refuses, refusal, change_answer}
use Rattle.calls.specs.ChangeCall.{AfterChange, change_call}
use Rattle.calls.specs.SavingLaw.{Saveable}
use Rattle.calls.specs.ChangeLaw.{ChangeLaw}
use Rattle.calls.proofs.AnswerLaws.{same_number, same_line, same_refusal, not_refused}

-- ---- the answer, by the refusal
abbrev answer_for : Option Refusal → AnswerOf (Unit {0})
answer_for none = gives tt
answer_for (some why) = refusal why

by_refusal : (o : Option Refusal) → change_answer (answered o) ≡ answer_for o
by_refusal none = refl
by_refusal (some why) = refl

module _ (deck : Deck) (change : Change) where
  answer_is : (change_call deck change).answer ≡ answer_for (record_refusal change deck)
  unfolding change_call changed_record
  answer_is = by_refusal (record_refusal change deck)

  -- a refusal by number and line is one of the code's
  refused_why : (number line : ℕ) → (change_call deck change).answer ≡ refuses number line →
      (why : Refusal) × (record_refusal change deck ≡ some why) × (number ≡ number_of why) × (line ≡ line_of why)
  refused_why number line e = go (record_refusal change deck) refl
    where
      go : (o : Option Refusal) → record_refusal change deck ≡ o →
          (why : Refusal) × (record_refusal change deck ≡ some why) × (number ≡ number_of why) × (line ≡ line_of why)
      go none f = absurd (not_refused tt number line (sym (answer_is ∙ ap answer_for f) ∙ e))
      go (some why) f =
          let same = sym e ∙ answer_is ∙ ap answer_for f in
          (why, f, same_number number line (number_of why) (line_of why) same, same_line number line (number_of why) (line_of why) same)

  refused_exactly : (why : Refusal) → ((change_call deck change).answer ≡ refusal why) ↔ (record_refusal change deck ≡ some why)
  refused_exactly why = (λ e. go (record_refusal change deck) refl e, λ f. answer_is ∙ ap answer_for f)
    where
      go : (o : Option Refusal) → record_refusal change deck ≡ o → (change_call deck change).answer ≡ refusal why → record_refusal change deck ≡ some why
      go none f e = absurd (not_refused tt (number_of why) (line_of why) (sym (answer_is ∙ ap answer_for f) ∙ e))
      go (some other) f e = f ∙ ap some (same_refusal other why (sym (answer_is ∙ ap answer_for f) ∙ e))

  made_none : (change_call deck change).answer ≡ gives tt → record_refusal change deck ≡ none
  made_none e = go (record_refusal change deck) refl
    where
      go : (o : Option Refusal) → record_refusal change deck ≡ o → record_refusal change deck ≡ none
      go none f = f
      go (some why) f = absurd (not_refused tt (number_of why) (line_of why) (sym e ∙ answer_is ∙ ap answer_for f))

  refused_kept : {why : Refusal} → record_refusal change deck ≡ some why → change_call deck change ≡ record { answer = refusal why; deck = deck }
  unfolding change_call changed_record
  refused_kept e = ap (λ (o : Option Refusal). record { answer = change_answer (answered o); deck = unless_refused o deck (altered_record change deck) }) e

  not_usable : T (not (usable deck)) → record_refusal change deck ≡ some (OutOfRange 0)
  unfolding record_refusal
  not_usable t = ap (λ (b : Bool). cond b (change_refusal change (deck_of deck)) (some (OutOfRange 0))) (fails (usable deck) t)

  deck_is : (change_call deck change).deck ≡ (changed_record change deck).deck
  unfolding change_call
  deck_is = refl

-- ---- the numbers of a change's refusals: 3, and those that its list gives
abbrev pub list_refusals : Change → List ℕ
list_refusals (add_post p) = 10 ∷ []
list_refusals (remove_post p) = 5 ∷ 9 ∷ []
list_refusals (add_stop s) = 10 ∷ []
list_refusals (remove_stop s) = 6 ∷ 9 ∷ []

-- a refusal has one of them, and line 0
abbrev Listed : Change → Refusal → Type 0
Listed change why = Memᴰ (number_of why) (3 ∷ list_refusals change) × (line_of why ≡ 0)

applies_listed : {deck : Query.Deck} {change : Change} {why : Refusal} → ChangeApplies deck change why → Listed change why
applies_listed (out_of_range n) = (Memᴰ.head refl, refl)
applies_listed (no_such_post p n) = (Memᴰ.tail (Memᴰ.tail (Memᴰ.head refl)), refl)
applies_listed (no_such_stop s n) = (Memᴰ.tail (Memᴰ.tail (Memᴰ.head refl)), refl)
applies_listed (only_post p e) = (Memᴰ.tail (Memᴰ.head refl), refl)
applies_listed (only_stop s e) = (Memᴰ.tail (Memᴰ.head refl), refl)
applies_listed (posts_full p h) = (Memᴰ.tail (Memᴰ.head refl), refl)
applies_listed (stops_full s h) = (Memᴰ.tail (Memᴰ.head refl), refl)

-- ---- area and axis costs
same_area : (deck : Deck) (change : Change) → (deck_of (altered_record change deck)).area ≡ (deck_of deck).area
unfolding altered_record deck_of
same_area deck (add_post p) = refl
same_area deck (remove_post p) = refl
same_area deck (add_stop s) = refl
same_area deck (remove_stop s) = refl

same_axis : (deck : Deck) (change : Change) → (deck_of (altered_record change deck)).axis ≡ (deck_of deck).axis
unfolding altered_record deck_of
same_axis deck (add_post p) = refl
same_axis deck (remove_post p) = refl
same_axis deck (add_stop s) = refl
same_axis deck (remove_stop s) = refl

-- ---- one change
module _ (deck : Deck) (change : Change) where
  -- what holds of the record, and of what it leaves where the change is made, holds of the record then
  record_ind : (P : Deck → Type 0) → P deck → (record_refusal change deck ≡ none → P (altered_record change deck)) → P (change_call deck change).deck
  unfolding change_call changed_record
  record_ind P = unless_ind P (record_refusal change deck)

  why_listed : (why : Refusal) → record_refusal change deck ≡ some why → Listed change why
  why_listed why e = ⊎_elim
      (λ t. applies_listed ((refusal_some change (deck_of deck) why).0 (sym (when_usable change deck t) ∙ e)))
      (λ t. subst (Listed change) (same_some (sym (not_usable deck change t) ∙ e)) (Memᴰ.head refl, refl)) (test (usable deck))
    where
      same_some : {a b : Refusal} → ◌≡◌ {A = Option Refusal} (some a) (some b) → a ≡ b
      same_some {a} {b} f = some-injective a b f

  pub number_listed : (number line : ℕ) → (change_call deck change).answer ≡ refuses number line → Memᴰ number (3 ∷ list_refusals change)
  number_listed number line e = let (why, f, n, l) = refused_why deck change number line e in
      subst (λ m. Memᴰ m (3 ∷ list_refusals change)) (sym n) (why_listed why f).0

  module _ (t : T (usable deck)) where
    exactly : (why : Refusal) → ((change_call deck change).answer ≡ refusal why) ↔ ChangeApplies (deck_of deck) change why
    exactly why = (
      λ e. (refusal_some change (deck_of deck) why).0 (sym (when_usable change deck t) ∙ (refused_exactly deck change why).0 e),
      λ a. (refused_exactly deck change why).1 (when_usable change deck t ∙ (refusal_some change (deck_of deck) why).1 a),
    )

    none_of : (change_call deck change).answer ≡ gives tt → change_refusal change (deck_of deck) ≡ none
    none_of e = sym (when_usable change deck t) ∙ made_none deck change e

    made_where : ((change_call deck change).answer ≡ gives tt) ↔ ((why : Refusal) → ChangeApplies (deck_of deck) change why → ⊥)
    made_where = (
      λ e why a. none-ne-some why (sym (none_of e) ∙ (refusal_some change (deck_of deck) why).1 a),
      λ n. go (change_refusal change (deck_of deck)) refl n,
    )
      where
        go : (o : Option Refusal) → change_refusal change (deck_of deck) ≡ o → ((why : Refusal) → ChangeApplies (deck_of deck) change why → ⊥) →
            (change_call deck change).answer ≡ gives tt
        go none f n = answer_is deck change ∙ ap answer_for (when_usable change deck t ∙ f)
        go (some why) f n = absurd (n why ((refusal_some change (deck_of deck) why).0 f))

    made_leaves : Sized deck → (change_call deck change).answer ≡ gives tt → Leaves (deck_of deck) (deck_of (change_call deck change).deck) change
    made_leaves sized e = subst (λ d. Leaves (deck_of deck) d change) (sym (ap deck_of left ∙ deck_of_altered change deck sized t (none_of e)))
        (leaves_altered (deck_of deck) change ((refusal_none change (deck_of deck)).0 (none_of e)))
      where
        left : (change_call deck change).deck ≡ altered_record change deck
        left = deck_is deck change ∙ ap (λ r. r.deck) (answer_made change deck (made_none deck change e))

  made_as : Sound deck → (change_call deck change).answer ≡ gives tt → (change_call deck change).deck ≡ deck_record (altered change (deck_of deck))
  made_as sound e = deck_is deck change ∙ ap (λ r. r.deck) (made_answer deck change sound (none_of (sound_usable deck sound) e))

  can_change : Sized deck → T (usable deck) ↔ (Saveable deck 0 × ((i : ℕ) → i < deck.stop_count → get_or deck.near i 0 ≤ travel_limit))
  can_change sized = let both = usable_exactly deck sized in (
    λ t. let c = both.0 t in (record { allowed = c.0; few_posts = c.1; few_stops = c.2 }, c.3),
    λ s. both.1 (s.0.allowed, s.0.few_posts, s.0.few_stops, s.1),
  )

  pub change_law : ChangeLaw deck change
  change_law = record {
    refused_deck = λ number line e. ap (λ (r : AfterChange). r.deck) (refused_kept deck change (refused_why deck change number line e).1);
    line_0 = λ number line e. let (why, f, n, l) = refused_why deck change number line e in l ∙ (why_listed why f).1;
    area_kept = record_ind (λ d. (deck_of d).area ≡ (deck_of deck).area) refl (λ e. same_area deck change);
    axis_kept = record_ind (λ d. (deck_of d).axis ≡ (deck_of deck).axis) refl (λ e. same_axis deck change);
    usable_exactly = can_change;
    sound_usable = sound_usable deck;
    unusable = λ t. refused_kept deck change (not_usable deck change t);
    refused_exactly = exactly;
    made_exactly = made_where;
    leaves = λ sized t. made_leaves t sized;
    usable_again = λ sized t. record_ind (λ d. Sized d × T (usable d)) (sized, t)
        (λ e. kept change deck sized t (sym (when_usable change deck t) ∙ e));
    made = made_as;
    sound = λ s. subst Sound (sym (deck_is deck change)) (changed_sound deck change s);
  }
