-- The law of records: reading leaves a sound record where it accepts, changes keep it sound, and every sound record is read from its saved
-- spelling.
use mathlib.Core.Path.{◌≡◌, sym, ap, subst, ◌∙◌}
use mathlib.Core.List.{List, map}
use Prim.Native.Nat.{ℕ, ◌≤◌, ◌<◌}
use native.Mathlib.Omega.{arith}
use lib.ListN.{get_or, take, length-map}
use lib.Seq.{get_or-take}
use Rattle.numbers.proofs.Joined.{map_at}
use Rattle.numbers.proofs.Padded.{padded_at, padded_behind}
use Rattle.query.specs.Travel.{near}
use Rattle.query.specs.Range.{stops_limit}
use Rattle.deck.specs.DeckOf.{deck_of, deck_record}
use Rattle.deck.specs.Sound.{Sound}
use Rattle.deck.specs.declared.Deck.{Deck}
use Rattle.deck.specs.Values.{stop_of, no_stop}
use Rattle.deck.proofs.SoundLaws.{record_sound, sound_near, sound_stops, sound_before}
use Rattle.job.specs.declared.Job as Held
use Rattle.job.specs.File.{held_job, saved_spelling}
use Rattle.job.proofs.Meaning.{allowed_in_range}
use Rattle.job.proofs.AllowedLaws.{in_range_allowed}
use Rattle.job_check.proofs.AxisLaws.{saved_spells}
use Rattle.calls.specs.Answers.{gives}
use Rattle.job.specs.JobRecord.{job_record}
use Rattle.calls.specs.ReadCall.{read_call}
use Rattle.calls.specs.RecordLaw.{Made, by_reading, by_change, stop_in, RecordLaw}
use Rattle.calls.proofs.ChangeLaw.{change_law}
use Rattle.calls.proofs.Promises.{read_exactly}
use Rattle.calls.proofs.SavingLaw.{read_given, read_accepted}

-- ---- reading makes sound records, and changes keep them so
pub made_sound : (deck : Deck) → Made deck → Sound deck
made_sound deck (by_change held change made same) = subst Sound (sym same) ((change_law held change).sound (made_sound held made))
made_sound deck (by_reading job held e same) =
    let (j, read, is) = read_accepted job held e in
    let allowed = ((read_exactly job j).0 read).1 in
    subst Sound (sym (same ∙ ap (λ (h : Held.Job). h.deck) is)) (record_sound j.deck (allowed_in_range j allowed) allowed.area_full)

-- ---- and all of them
sound_read : (deck : Deck) → Sound deck → (job : List ℕ) × (held : Held.Job) × (read_call job ≡ gives held) × (deck ≡ held.deck)
sound_read deck sound =
    let job = held_job deck 0 in
    let allowed = in_range_allowed job sound.range sound.full (omega arith) in
    let read = (read_exactly (saved_spelling job) job).1 (saved_spells job, allowed) in
    (saved_spelling job, job_record job, read_given (saved_spelling job) job read, sound.whole)

sound_made : (deck : Deck) → Sound deck → Made deck
sound_made deck sound = let (job, held, given, same) = sound_read deck sound in by_reading job held given same

-- ---- near, number by number
module _ (deck : Deck) (sound : Sound deck) (i : ℕ) where
  near_at_lem : i < deck.stop_count → get_or deck.near i 0 ≡ near (deck_of deck) (stop_in deck i)
  unfolding deck_of
  near_at_lem h =
      rw (sound_near sound)
      (padded_at stops_limit 0 (map (near (deck_of deck)) (deck_of deck).stops) i
      (omega (arith, length-map (deck_of deck).stops (near (deck_of deck)), sound_stops sound))
      ∙ each)
    where
      stop_at_lem : get_or (deck_of deck).stops i (stop_in deck i) ≡ stop_in deck i
      stop_at_lem =
          map_at stop_of (take deck.stop_count deck.stops) i (stop_in deck i) no_stop
          (omega (arith, length-map (take deck.stop_count deck.stops) stop_of, sound_stops sound))
          ∙ ap stop_of (get_or-take deck.stop_count deck.stops i no_stop h)

      each : get_or (map (near (deck_of deck)) (deck_of deck).stops) i 0 ≡ near (deck_of deck) (stop_in deck i)
      each = map_at (near (deck_of deck)) (deck_of deck).stops i 0 (stop_in deck i) (omega (arith, sound_stops sound)) ∙ ap (near (deck_of deck)) stop_at_lem

  near_past : deck.stop_count ≤ i → get_or deck.near i 0 ≡ 0
  near_past h = rw (sound_near sound) (padded_behind stops_limit 0 (map (near (deck_of deck)) (deck_of deck).stops) i
      (omega (arith, length-map (deck_of deck).stops (near (deck_of deck)), sound_stops sound)))

pub record_law : (deck : Deck) → RecordLaw deck
record_law deck = record {
  sound_exactly = (made_sound deck, sound_made deck);
  as_read = sound_read deck;
  near_is = near_at_lem deck;
  near_behind = near_past deck;
  before_is = sound_before;
  one_record = λ other s t e. s.whole ∙ ap deck_record e ∙ sym t.whole;
}
