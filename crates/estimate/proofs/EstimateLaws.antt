-- The estimate of a deck's problem, and of a job that was prepared.
use Prim.Native.Nat.{ℕ, ◌+◌, ◌≤◌, ◌<◌}
use mathlib.Core.Path.{◌≡◌, sym, ap, ◌∙◌}
use mathlib.Core.List.{List}
use native.Mathlib.Omega.{arith}
use lib.ListN.{length}
use Rattle.std.specs.Prelude.{Ok, Err}
use Rattle.query.specs.Deck.{Deck}
use Rattle.query.specs.Place.{x_axis, y_axis}
use Rattle.query.specs.Lines.{lines}
use Rattle.query.specs.Range.{stops_limit, rounds_limit}
use Rattle.query.specs.Estimate as Query
use Rattle.query.specs.Estimate.{estimate}
use Rattle.lines.proofs.DeckLines.{deck_lined}
use Rattle.prepare.specs.ProblemRecord.{Parts, problem_record, given_by, given_for}
use Rattle.prepare.specs.declared.PreparedJob.{PreparedJob}
use Rattle.prepare.proofs.JobProblem.{spelt, rounds_same, rounds_limit_lem, problem_same, given_refused}
use Rattle.refusal.specs.declared.Refusal.{Refusal}
use Rattle.job.specs.Format.{read_job}
use Rattle.job.proofs.Meaning.{allowed_in_range}
use Rattle.job.proofs.ReadDeck.{spelt_range}
use Rattle.calls.specs.declared.Estimate.{Estimate}
use Rattle.calls.specs.Answers.{gives, estimate_numbers, estimated_answer}
use Rattle.calls.specs.EstimateCall.{estimate_call}
use Rattle.calls.proofs.Promises.{read_exactly}
use Rattle.calls.proofs.EstimateCall.{call_accepted, call_refused, given_one}
use Rattle.estimate.specs.LineCounts.{LineCounts, estimate_by, GivenCounts, given_estimate}
use Rattle.estimate.proofs.LineCounts.{most_product, deck_counted, deck_small}

-- ---- a deck's problem that was made
module _ (deck : Deck) (p : Parts) (e : p ≡ problem_record deck) where
  vertical_count : length p.vertical ≡ length (lines deck x_axis)
  unfolding problem_record
  vertical_count = ap (λ (q : Parts). length q.vertical) e

  horizontal_count : length p.horizontal ≡ length (lines deck y_axis)
  unfolding problem_record
  horizontal_count = ap (λ (q : Parts). length q.horizontal) e

  pub counts : length deck.stops ≤ stops_limit → (rounds : ℕ) → rounds ≤ rounds_limit → LineCounts (length p.vertical) (length p.horizontal) rounds
  counts few rounds r =
      let lined = deck_lined deck few in
      record {
        vertical = omega (arith, vertical_count, lined.across.few);
        horizontal = omega (arith, horizontal_count, lined.deep.few);
        rounds_limit_lem = r;
      }

  pub deck_estimate : (rounds : ℕ) → estimate_by (length p.vertical) (length p.horizontal) rounds ≡ estimate deck rounds
  deck_estimate rounds = deck_counted deck rounds _ _ vertical_count horizontal_count

-- ---- the call
module _ (job : List ℕ) where
  module _ (g : PreparedJob) (e : given_by (Ok g) ≡ given_for (read_job job)) where
    pub job_counts : GivenCounts g
    job_counts = counts _ _ (problem_same job g e) (spelt_range (spelt job g e)).most_stops g.rounds (rounds_limit_lem job g e)

    pub estimate_given : (x : Estimate) → estimate_numbers x ≡ given_estimate g → estimated_answer (Ok x) ≡ estimate_call job
    estimate_given x f =
        let s = spelt job g e in
        ap gives (f ∙ deck_estimate _ _ (problem_same job g e) g.rounds ∙ ap (estimate s.job.deck) (rounds_same job g e))
        ∙ sym (call_accepted job s.job s.read)

  pub estimate_refused : (why : Refusal) → Err why ≡ given_for (read_job job) → estimated_answer (Err why) ≡ estimate_call job
  estimate_refused why e = sym (call_refused job why (given_refused job why e))

-- ---- an estimate that is given: its numbers are small
pub given_small : (job : List ℕ) (e : Query.Estimate) → estimate_call job ≡ gives e →
    (e.across ≤ stops_limit + 1) × (e.deep ≤ stops_limit + 1) × (e.limit < most_product) × (e.cells ≤ most_product)
given_small job e g =
    let (j, read, same) = given_one job e g in
    let range = allowed_in_range j ((read_exactly job j).0 read).1 in
    rw same at (deck_small j.deck j.rounds range.most_stops)
