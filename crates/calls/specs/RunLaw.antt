-- What holds after any changes, one after another, of a record that was read (RULES "Change 6").
use Rattle.std.specs.Prelude.{ℕ, ◌≤◌, ◌≡◌, Bool, false, List, length}
use Rattle.deck.specs.Sound.{Sound}
use Rattle.change.specs.Change.{Change, changed_by}
use Rattle.change.specs.ChangedRecord.{record_after}
use Rattle.job.specs.Format.{Job, missing_axis}
use Rattle.job.specs.Spelling.{spell, Spells}
use Rattle.job.specs.File.{saved_spelling}
use Rattle.write.specs.Written.{overwritten}
use Rattle.calls.specs.Answers.{gives}
use Rattle.job.specs.JobRecord.{job_record}
use Rattle.calls.specs.ReadCall.{read_call}
use Rattle.calls.specs.WriteCall.{write_call}
use Rattle.calls.specs.SavingLaw.{SpellsOut}

-- the job with the lists after some changes, of which those that are refused count as none
abbrev pub changed_job : List Change → Job → Job
changed_job changes j = record { deck = changed_by changes j.deck; rounds = j.rounds }

-- of the job j that some bytes are read as
pub record RunLaw (changes : List Change) (job : List ℕ) (j : Job) : Type 0 where
  -- area and axis costs stay
  pub area_kept : (changed_by changes j.deck).area ≡ j.deck.area
  pub axis_kept : (changed_by changes j.deck).axis ≡ j.deck.axis
  -- the changed record is the one that the changed job is read as, near and before included, in whichever of its spellings; and that in
  -- which j was spelled is one of them
  pub as_read : (bytes : List ℕ) → Spells missing_axis bytes (changed_job changes j) →
      read_call bytes ≡ gives (record { rounds = j.rounds; deck = record_after changes (job_record j).deck })
  pub spelled : (carried : Bool) → job ≡ spell carried j →
      Spells missing_axis (spell carried (changed_job changes j)) (changed_job changes j)
  pub sound : Sound (record_after changes (job_record j).deck)
  -- written, it is the changed job's bytes, in the spelling that is saved, which `as_read` covers too
  pub written : (out : List ℕ) → let text = saved_spelling (changed_job changes j) in length text ≤ length out →
      write_call (record_after changes (job_record j).deck) j.rounds out
      ≡ record { answer = gives (length text); out = overwritten text out }
  pub written_spells : Spells missing_axis (saved_spelling (changed_job changes j)) (changed_job changes j)
  -- that is the spelling in which j was read; but where j spells out `axis=1,1`, the line is left out
  pub own_form : (carried : Bool) → job ≡ spell carried j → (SpellsOut job j → ⊥) →
      saved_spelling (changed_job changes j) ≡ spell carried (changed_job changes j)
  pub line_left_out : SpellsOut job j → saved_spelling (changed_job changes j) ≡ spell false (changed_job changes j)
