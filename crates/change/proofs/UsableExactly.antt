-- Which records can be changed, in plain terms: those whose file would be accepted, and whose near is no more than a travel can be.
use mathlib.Core.Path.{◌≡◌, refl, sym, ap, ◌∙◌}
use mathlib.Core.Logic.{◌↔◌}
use mathlib.Core.Option.{none, none-ne-some}
use Prim.Native.Nat.{◌≤◌}
use native.Mathlib.Omega.{arith}
use lib.Dec.{T, leb}
use lib.ListN.{length, take}
use Rattle.std.specs.List.{list_all}
use Rattle.numbers.proofs.Truth.{and_iff}
use Rattle.query.specs.Place.{NonEmpty}
use Rattle.query.specs.Range.{InRange, posts_limit, stops_limit, travel_limit}
use Rattle.deck.specs.DeckOf.{Sized, deck_of}
use Rattle.deck.specs.Values.{held_axis}
use Rattle.deck.specs.Ranges.{CostsInRange, PostsInRange, StopsInRange, NearsInRange}
use Rattle.deck.specs.Sound.{Sound}
use Rattle.deck.specs.declared.Deck.{Deck}
use Rattle.deck.proofs.DeckLaws.{Listed, costs_range, posts_range, stops_range}
use Rattle.deck.proofs.SoundLaws.{sound_listed, sound_nears}
use Rattle.job.specs.Format.{Result, refused, accepted, missing_axis, read_text}
use Rattle.job.specs.File.{held_job, file_text}
use Rattle.job.specs.Spelling.{Allowed}
use Rattle.job.proofs.AllowedLaws.{in_range_allowed}
use Rattle.job.proofs.Meaning.{allowed_text, allowed_in_range}
use Rattle.job_check.specs.LineFaults.{refusal_in}
use Rattle.job_check.proofs.FileFaults.{file_is, file_spelled}
use Rattle.job_check.proofs.AxisLaws.{saved_spells}
use Rattle.change.specs.ChangedRecord.{is_accepted, usable}
use Rattle.change.proofs.FrontChanges.{EachUpTo, front_up_to}

-- ---- its two tests
pub accepts : (r : Result) → T (is_accepted r) ↔ (refusal_in r ≡ none)
accepts (refused why) = (λ t. absurd t, λ e. absurd (none-ne-some why (sym e)))
accepts (accepted job) = (λ t. refl, λ e. tt)

tests : (deck : Deck) → T (usable deck)
    ↔ ((refusal_in (read_text (file_text deck 0)) ≡ none) × T (list_all (λ n. leb n travel_limit) (take deck.stop_count deck.near)))
unfolding usable
tests deck =
    and_iff (is_accepted (read_text (file_text deck 0))) (list_all (λ n. leb n travel_limit) (take deck.stop_count deck.near))
    (accepts (read_text (file_text deck 0))) (λ t. t, λ t. t)

-- ---- what they say
-- whatever the length of near, which is 0 past its end
abbrev pub CanChange : Deck → Type 0
CanChange deck = Allowed (held_job deck 0) × (deck.post_count ≤ posts_limit) × (deck.stop_count ≤ stops_limit) × EachUpTo travel_limit deck.near deck.stop_count

module _ (deck : Deck) (sized : Sized deck) where
  accepted_file : Allowed (held_job deck 0) → deck.post_count ≤ posts_limit → deck.stop_count ≤ stops_limit → refusal_in (read_text (file_text deck 0)) ≡ none
  accepted_file allowed posts stops = ap refusal_in (ap read_text (file_spelled deck 0 sized posts stops)
      ∙ allowed_text missing_axis _ (held_job deck 0) (saved_spells (held_job deck 0)) allowed)

  pub usable_exactly : T (usable deck) ↔ CanChange deck
  usable_exactly = (
    λ t. let (fine, few) = (tests deck).0 t in
        let file = file_is deck 0 sized fine in
        (file.allowed, file.few_posts, file.few_stops, (front_up_to travel_limit deck.stop_count deck.near).0 few),
    λ h. (tests deck).1 (accepted_file h.0 h.1 h.2, (front_up_to travel_limit deck.stop_count deck.near).1 h.3),
  )

  -- ---- of a record that can be changed
  module _ (t : T (usable deck)) where
    pub usable_counts : Listed deck
    usable_counts = let h = usable_exactly.0 t in record { sized = sized; posts = h.1; stops = h.2 }

    pub usable_range : InRange (deck_of deck)
    usable_range = allowed_in_range _ (usable_exactly.0 t).0

    pub usable_area : NonEmpty (deck_of deck).area
    usable_area = (usable_exactly.0 t).0.area_full

    pub usable_near : EachUpTo travel_limit deck.near deck.stop_count
    usable_near = (usable_exactly.0 t).3

-- ---- its numbers are in range
pub record Usable (deck : Deck) : Type 0 where
  pub listed : Listed deck
  pub range : InRange (deck_of deck)
  pub costs : CostsInRange (held_axis deck.axis)
  pub posts : PostsInRange (take deck.post_count deck.posts)
  pub stops : StopsInRange (take deck.stop_count deck.stops)
  pub nears : NearsInRange deck.near deck.stop_count

pub usable_says : {deck : Deck} → Sized deck → length deck.near ≡ stops_limit → T (usable deck) → Usable deck
usable_says {deck} sized nears t =
    let listed = usable_counts deck sized t in
    let range = usable_range deck sized t in
    record {
      listed = listed;
      range = range;
      costs = costs_range deck range;
      posts = posts_range deck range;
      stops = stops_range deck range;
      nears = record { count = omega (arith, listed.stops, nears); range = usable_near deck sized t };
    }

-- ---- every sound record can be changed
pub sound_usable : (deck : Deck) → Sound deck → T (usable deck)
sound_usable deck sound =
    let listed = sound_listed sound in
    (usable_exactly deck listed.sized).1
    (in_range_allowed (held_job deck 0) sound.range sound.full (omega arith), listed.posts, listed.stops, (sound_nears sound).range)
