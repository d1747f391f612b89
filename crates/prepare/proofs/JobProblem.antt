-- What preparing a job gives: made of the job that was read, and what it says of that job.
use Prim.Native.Nat.{ℕ, ◌≤◌}
use mathlib.Core.Path.{◌≡◌, refl, sym, ap, ◌∙◌}
use mathlib.Core.List.{List}
use native.Mathlib.Omega.{arith}
use Rattle.std.specs.Prelude.{Ok, Err}
use Rattle.std.specs.Prelude as Std
use Rattle.query.specs.Cost.{before}
use Rattle.query.specs.Range.{rounds_limit}
use Rattle.refusal.specs.declared.Refusal.{Refusal}
use Rattle.job.specs.Format.{Result, refused, accepted, read_job}
use Rattle.job.specs.JobRecord.{job_result}
use Rattle.job.specs.declared.Job as Held
use Rattle.job.proofs.JobLaws.{most_rounds}
use Rattle.job.proofs.Meaning.{accepted_job}
use Rattle.job.proofs.ReadDeck.{Spelt, read_accepted, read_rounds, read_refused, read_deck_of, read_sound}
use Rattle.deck.specs.DeckOf.{deck_of}
use Rattle.deck.proofs.SoundLaws.{sound_before}
use Rattle.prepare.specs.declared.PreparedJob.{PreparedJob}
use Rattle.prepare.specs.ProblemRecord.{Parts, parts_in, problem_record, GivenParts, given_for}

-- ---- of the job that was read
pub prepared_refused : (bytes : List ℕ) (why : Refusal) → Err why ≡ job_result (read_job bytes) → Err why ≡ given_for (read_job bytes)
unfolding given_for
prepared_refused bytes why e = rw (read_refused bytes why e)

pub prepared_accepted : (bytes : List ℕ) (j : Held.Job) (e : Ok j ≡ job_result (read_job bytes)) (q : Parts) → q ≡ problem_record (deck_of j.deck) →
    Ok (record { rounds = j.rounds; before = j.deck.before; problem = q }) ≡ given_for (read_job bytes)
unfolding given_for
prepared_accepted bytes j e q f =
    let s = read_accepted bytes j e in
    let same = read_deck_of s j e in
    let rounds = read_rounds bytes j e s in
    let paid = sound_before (read_sound s j e) ∙ ap before same in
    let problem = f ∙ ap problem_record same in
    (λ i. Ok (record { rounds = rounds i; before = paid i; problem = problem i })) ∙ sym (ap given_for s.read)

-- ---- what was given
given_apart : {P : Type 0} {g : GivenParts} {why : Refusal} → Ok g ≡ Err why → P
given_apart e = absurd (let z : ◌≡◌ {A = ℕ} 0 1 = cc in omega arith)

same_given : {g k : GivenParts} → ◌≡◌ {A = Std.Result GivenParts Refusal} (Ok g) (Ok k) → g ≡ k
same_given e = cc

same_why : {why other : Refusal} → ◌≡◌ {A = Std.Result GivenParts Refusal} (Err why) (Err other) → why ≡ other
same_why e = cc

-- a refusal
pub given_refused : (bytes : List ℕ) (why : Refusal) → Err why ≡ given_for (read_job bytes) → read_job bytes ≡ refused why
unfolding given_for
given_refused bytes why e = go (read_job bytes) refl e
  where
    go : (r : Result) → read_job bytes ≡ r → Err why ≡ given_for r → read_job bytes ≡ refused why
    go (refused other) p q = p ∙ ap refused (sym (same_why q))
    go (accepted job) p q = given_apart (sym q)

-- a problem
module _ (bytes : List ℕ) (g : PreparedJob) (e : Ok (record { rounds = g.rounds; before = g.before; problem = parts_in g.problem })
    ≡ given_for (read_job bytes)) where
  pub spelt : Spelt bytes
  unfolding given_for
  spelt = go (read_job bytes) refl e
    where
      go : (r : Result) → read_job bytes ≡ r →
          Ok (record { rounds = g.rounds; before = g.before; problem = parts_in g.problem }) ≡ given_for r → Spelt bytes
      go (refused why) p q = given_apart q
      go (accepted job) p q = record { job = job; read = p; allowed = ((accepted_job bytes job).0 p).2 }

  given_is : ◌≡◌ {A = GivenParts} (record { rounds = g.rounds; before = g.before; problem = parts_in g.problem })
      (record { rounds = spelt.job.rounds; before = before spelt.job.deck; problem = problem_record spelt.job.deck })
  unfolding given_for
  given_is = same_given (e ∙ ap given_for spelt.read)

  pub rounds_same : g.rounds ≡ spelt.job.rounds
  rounds_same = ap (λ (k : GivenParts). k.rounds) given_is

  pub rounds_limit_lem : g.rounds ≤ rounds_limit
  rounds_limit_lem = omega (arith, rounds_same, most_rounds spelt.allowed.writable)

  pub before_same : g.before ≡ before spelt.job.deck
  before_same = ap (λ (k : GivenParts). k.before) given_is

  pub problem_same : parts_in g.problem ≡ problem_record spelt.job.deck
  problem_same = ap (λ (k : GivenParts). k.problem) given_is
