-- A job that was read: what the record says of the bytes, and of the deck that they spell.
use mathlib.Core.Path.{◌≡◌, refl, sym, ap, subst, ◌∙◌}
use mathlib.Core.List.{List}
use Prim.Native.Nat.{ℕ}
use native.Mathlib.Omega.{arith}
use Rattle.query.specs.Range.{InRange}
use Rattle.std.specs.Prelude as Std
use Rattle.std.specs.Prelude.{Ok, Err}
use Rattle.job.specs.Format.{Job, Result, refused, accepted, read_job}
use Rattle.job.specs.Spelling.{Allowed}
use Rattle.job.specs.JobRecord.{job_result}
use Rattle.job.specs.declared.Job as Held
use Rattle.refusal.specs.declared.Refusal.{Refusal}
use Rattle.job.proofs.Meaning.{accepted_job, allowed_in_range}
use Rattle.deck.specs.DeckOf.{deck_of, deck_record}
use Rattle.deck.specs.Sound.{Sound}
use Rattle.deck.proofs.DeckLaws.{held_deck}
use Rattle.deck.proofs.SoundLaws.{record_sound}

-- a job and a refusal differ
pub not_both : {P : Type 0} {j : Held.Job} {why : Refusal} → Ok j ≡ Err why → P
not_both e = absurd (let z : ◌≡◌ {A = ℕ} 0 1 = cc in omega arith)

same_job : {i j : Held.Job} → ◌≡◌ {A = Std.Result Held.Job Refusal} (Ok i) (Ok j) → i ≡ j
same_job e = cc

same_refusal : {why other : Refusal} → ◌≡◌ {A = Std.Result Held.Job Refusal} (Err why) (Err other) → why ≡ other
same_refusal e = cc

-- the job that accepted bytes spell
pub record Spelt (bytes : List ℕ) : Type 0 where
  pub job : Job
  pub read : read_job bytes ≡ accepted job
  pub allowed : Allowed job

-- a refusal
pub read_refused : (bytes : List ℕ) (why : Refusal) → Err why ≡ job_result (read_job bytes) → read_job bytes ≡ refused why
unfolding job_result
read_refused bytes why e = go (read_job bytes) refl e
  where
    go : (r : Result) → read_job bytes ≡ r → Err why ≡ job_result r → read_job bytes ≡ refused why
    go (refused other) p q = p ∙ ap refused (sym (same_refusal q))
    go (accepted job) p q = not_both (sym q)

-- a job
module _ (bytes : List ℕ) (j : Held.Job) (e : Ok j ≡ job_result (read_job bytes)) where
  pub read_accepted : Spelt bytes
  unfolding job_result
  read_accepted = go (read_job bytes) refl e
    where
      go : (r : Result) → read_job bytes ≡ r → Ok j ≡ job_result r → Spelt bytes
      go (refused why) p q = not_both q
      go (accepted job) p q = record { job = job; read = p; allowed = ((accepted_job bytes job).0 p).2 }

  read_as : (s : Spelt bytes) → j ≡ record { rounds = s.job.rounds; deck = deck_record s.job.deck }
  unfolding job_result
  read_as s = same_job (e ∙ ap job_result s.read)

  pub read_deck : (s : Spelt bytes) → j.deck ≡ deck_record s.job.deck
  read_deck s = ap (λ (k : Held.Job). k.deck) (read_as s)

  pub read_rounds : (s : Spelt bytes) → j.rounds ≡ s.job.rounds
  read_rounds s = ap (λ (k : Held.Job). k.rounds) (read_as s)

-- ---- the deck
module _ {bytes : List ℕ} (s : Spelt bytes) where
  pub spelt_range : InRange s.job.deck
  spelt_range = allowed_in_range s.job s.allowed

  module _ (j : Held.Job) (e : Ok j ≡ job_result (read_job bytes)) where
    pub read_deck_of : deck_of j.deck ≡ s.job.deck
    read_deck_of = ap deck_of (read_deck bytes j e s) ∙ held_deck s.job.deck

    -- reading leaves a sound record
    pub read_sound : Sound j.deck
    read_sound = subst Sound (sym (read_deck bytes j e s)) (record_sound s.job.deck spelt_range s.allowed.area_full)
