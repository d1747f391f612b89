-- What a run of changes of a record that was read is held to.
use mathlib.Core.Path.{◌≡◌, refl, sym, ap, subst, ◌∙◌}
use mathlib.Core.Bool.{Bool, true, false}
use mathlib.Core.List.{List}
use Prim.Native.Nat.{ℕ, ◌≤◌}
use lib.ListN.{length}
use Rattle.query.specs.Place.{NonEmpty}
use Rattle.query.specs.Deck as Query
use Rattle.query.specs.Deck.{plain}
use Rattle.query.specs.Range.{InRange}
use Rattle.deck.specs.DeckOf.{deck_record}
use Rattle.deck.specs.Sound.{Sound}
use Rattle.deck.specs.declared.Deck.{Deck}
use Rattle.deck.proofs.DeckLaws.{held_deck}
use Rattle.deck.proofs.SoundLaws.{record_sound}
use Rattle.change.specs.Change.{Change, changed_by}
use Rattle.change.specs.ChangedRecord.{record_after}
use Rattle.change.proofs.AlteredLaws.{run_range, run_area, run_axis}
use Rattle.change.proofs.ChangedLaws as Changed
use Rattle.job.specs.declared.Job as Held
use Rattle.job.specs.Format.{Job, accepted, missing_axis, read_job}
use Rattle.job.specs.Spelling.{spell, Spells, with_line, without_line, Allowed}
use Rattle.job.specs.File.{writes_axis, saved_spelling}
use Rattle.job.proofs.JobLaws.{most_rounds}
use Rattle.job.proofs.Meaning.{allowed_in_range, spelling_law}
use Rattle.job.proofs.AllowedLaws.{in_range_allowed}
use Rattle.job_check.proofs.AxisLaws.{saved_spells}
use Rattle.write.specs.Written.{overwritten}
use Rattle.calls.specs.Answers.{AnswerOf, gives}
use Rattle.job.specs.JobRecord.{job_record}
use Rattle.calls.specs.ReadCall.{read_call}
use Rattle.calls.specs.WriteCall.{write_call}
use Rattle.calls.specs.SavingLaw.{SpellsOut}
use Rattle.calls.specs.RunLaw.{changed_job, RunLaw}
use Rattle.calls.proofs.Promises.{read_exactly}
use Rattle.calls.proofs.SavingLaw.{plain_unwritten, other_written, read_given, record_written}

module _ (changes : List Change) (job : List ℕ) (j : Job) (read : read_job job ≡ accepted j) where
  abbrev after : Job
  after = changed_job changes j

  abbrev record_now : Deck
  record_now = record_after changes (job_record j).deck

  spells : Spells missing_axis job j
  spells = ((read_exactly job j).0 read).0

  allowed : Allowed j
  allowed = ((read_exactly job j).0 read).1

  was_in_range : InRange j.deck
  was_in_range = allowed_in_range j allowed

  was_sound : Sound (deck_record j.deck)
  was_sound = record_sound j.deck was_in_range allowed.area_full

  -- ---- the record
  now_is : record_now ≡ deck_record (changed_by changes j.deck)
  now_is = Changed.run_is changes (deck_record j.deck) was_sound
      ∙ ap (λ (d : Query.Deck). deck_record (changed_by changes d)) (held_deck j.deck)

  now_sound : Sound record_now
  now_sound = Changed.run_sound changes (deck_record j.deck) was_sound

  -- ---- the job
  after_allowed : Allowed after
  after_allowed = in_range_allowed after (run_range changes j.deck was_in_range)
      (subst NonEmpty (sym (run_area changes j.deck)) allowed.area_full) (most_rounds allowed.writable)

  after_read : (bytes : List ℕ) → Spells missing_axis bytes after → read_job bytes ≡ accepted after
  after_read bytes s = (read_exactly bytes after).1 (s, after_allowed)

  reads_so : (bytes : List ℕ) → Spells missing_axis bytes after → read_call bytes ≡ gives (record { rounds = j.rounds; deck = record_now })
  reads_so bytes s = read_given bytes after (after_read bytes s) ∙ ap given_with (sym now_is)
    where
      given_with : Deck → AnswerOf Held.Job
      given_with d = gives (record { rounds = j.rounds; deck = d })

  -- ---- its spellings
  stays_plain : j.deck.axis ≡ plain → after.deck.axis ≡ plain
  stays_plain e = run_axis changes j.deck ∙ e

  was_plain : job ≡ spell false j → j.deck.axis ≡ plain
  was_plain e = ((spelling_law j).left_out missing_axis).0 (subst (λ (bs : List ℕ). Spells missing_axis bs j) e spells)

  spelled_so : (carried : Bool) → job ≡ spell carried j → Spells missing_axis (spell carried after) after
  spelled_so true e = with_line refl
  spelled_so false e = without_line refl (stays_plain (was_plain e))

  saved_by : {carried : Bool} → writes_axis after.deck.axis ≡ carried → saved_spelling after ≡ spell carried after
  saved_by e = ap (λ (b : Bool). spell b after) e

  own_so : (carried : Bool) → job ≡ spell carried j → (SpellsOut job j → ⊥) → saved_spelling after ≡ spell carried after
  own_so true e n = saved_by (other_written after.deck.axis (λ c. n (record { spelled = e; costs = sym (run_axis changes j.deck) ∙ c })))
  own_so false e n = saved_by (plain_unwritten after.deck.axis (stays_plain (was_plain e)))

  written_so : (out : List ℕ) → length (saved_spelling after) ≤ length out →
      write_call record_now j.rounds out ≡ record { answer = gives (length (saved_spelling after)); out = overwritten (saved_spelling after) out }
  written_so out h = ap (λ (d : Deck). write_call d j.rounds out) now_is ∙ record_written after after_allowed out h

  pub run_law : RunLaw changes job j
  run_law = record {
    area_kept = run_area changes j.deck;
    axis_kept = run_axis changes j.deck;
    as_read = reads_so;
    spelled = spelled_so;
    sound = now_sound;
    written = written_so;
    written_spells = saved_spells after;
    own_form = own_so;
    line_left_out = λ s. saved_by (plain_unwritten after.deck.axis (stays_plain s.costs));
  }
