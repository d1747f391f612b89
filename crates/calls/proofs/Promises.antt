-- The three promises of the call `report`.
use Prim.Native.Nat.{ℕ, suc, ◌≤◌, ◌<◌}
use mathlib.Core.Path.{◌≡◌, refl, sym, ap, subst, subst₂, ◌∙◌}
use mathlib.Core.Bool.{Bool, true, false}
use mathlib.Core.Logic.{◌↔◌, ⊎_elim}
use mathlib.Core.List.{List}
use native.Mathlib.Omega.{arith}
use lib.Dec.{ltb, ltb→lt, lt→ltb, nltb→le}
use lib.Arith.{le→nltb}
use lib.IntN.{ℤ}
use lib.ListN.{length}
use lib.Signed.{◌≤ℤ◌}
use Rattle.numbers.proofs.Truth.{test, cond-true, cond-false}
use Rattle.query.specs.Figures.{Figures}
use Rattle.query.specs.Space.{space_needed}
use Rattle.query.specs.Promise3.{Promise3}
use Rattle.query.proofs.Promise3 as Query
use Rattle.query.specs.Range.{rounds_limit, FiguresInRange}
use Rattle.query.proofs.FigureRanges.{run_in_range}
use Rattle.job.specs.Format.{Job, Result, refused, accepted, missing_axis, size_limit, read_job}
use Rattle.query.specs.Deck.{AxisCosts}
use Rattle.job.specs.Spelling.{spell, Spells, with_line, without_line, Allowed}
use Rattle.job.proofs.JobLaws.{most_rounds, other_rounds}
use Rattle.job.proofs.Meaning.{accepted_job, refused_job, spelling_law, allowed_in_range}
use Rattle.refusal.specs.Refusal.{number_of, line_of}
use Rattle.refusal.specs.declared.Refusal.{Refusal}
use Rattle.refusal.specs.declared.Refusal.TheVariants.{SmallSpace, ShortOutput}
use Rattle.report.specs.Limits.{output_size}
use Rattle.report.specs.Text.{report_text}
use Rattle.report.proofs.Fits.{report_fits}
use Rattle.calls.specs.Answers.{gives, refuses, refusal}
use Rattle.calls.specs.Call.{Left, turned_down, job_figures, reported, answered, report_call}
use Rattle.calls.specs.Promises.{Accepted, Applies, in_reading, small_space, short_output, Promise1, Reported, Promise2, one_more, Promise3Report, Promises}
use Rattle.calls.proofs.AnswerLaws.{same_number, same_line, same_refusal, same_given, not_refused}

-- the figures of an allowed job are in range, so that its report fits the output
pub more_rounds : {n : ℕ} {f : Figures} → FiguresInRange n f → n ≤ rounds_limit → FiguresInRange rounds_limit f
more_rounds range h = record {
  place = range.place;
  high_limit = range.high_limit;
  low_some = range.low_some;
  low_limit = range.low_limit;
  before_limit = range.before_limit;
  rounds_limit_lem = omega (arith, range.rounds_limit_lem);
}

pub job_limits : (job : Job) → Allowed job → FiguresInRange rounds_limit (job_figures job)
job_limits job a =
    more_rounds (run_in_range job.deck (allowed_in_range job a) a.area_full job.rounds).figures_range (most_rounds a.writable)

text_fits : (job : Job) → Allowed job → length (report_text (job_figures job)) ≤ output_size
text_fits job a = report_fits.report_fits (job_figures job) (job_limits job a)

-- one more round leaves a job allowed
allowed_more : (j : Job) → j.rounds < rounds_limit → Allowed j → Allowed (one_more j)
allowed_more j h a = record {
  writable = other_rounds j (suc j.rounds) a.writable h;
  area_full = a.area_full;
  some_posts = a.some_posts;
  some_stops = a.some_stops;
}

-- bytes that spell an allowed job are few enough
spells_fits : (missing : AxisCosts) (job : List ℕ) (j : Job) → Spells missing job j → Allowed j → length job ≤ size_limit
spells_fits missing job j (with_line e) a = rw e ((spelling_law j).fits a true)
spells_fits missing job j (without_line e c) a = rw e ((spelling_law j).fits a false)

pub read_exactly : (job : List ℕ) (j : Job) → (read_job job ≡ accepted j) ↔ (Spells missing_axis job j × Allowed j)
read_exactly job j = (
  λ e. let h = (accepted_job job j).0 e in (h.1, h.2),
  λ h. (accepted_job job j).1 (spells_fits missing_axis job j h.0 h.1, h.0, h.1),
)

-- the same spelling with one more round
spells_more : (carried : Bool) (j : Job) → Spells missing_axis (spell carried j) j → Spells missing_axis (spell carried (one_more j)) (one_more j)
spells_more true j h = with_line refl
spells_more false j h = without_line refl (((spelling_law j).left_out missing_axis).0 h)

-- ---- how an accepted job is answered
module _ (j : Job) (cells : List ℤ) (out : List ℕ) where
  pub small_answer : length cells < space_needed j.deck j.rounds → answered (accepted j) cells out ≡ turned_down SmallSpace cells out
  unfolding answered
  small_answer h = cond-true (ltb (length cells) (space_needed j.deck j.rounds)) _ _ (lt→ltb _ _ h)

  module _ (h : space_needed j.deck j.rounds ≤ length cells) where
    pub short_answer : length out < output_size → answered (accepted j) cells out ≡ turned_down ShortOutput cells out
    unfolding answered
    short_answer k = cond-false (ltb (length cells) (space_needed j.deck j.rounds)) _ _ (le→nltb _ _ h)
        ∙ cond-true (ltb (length out) output_size) _ _ (lt→ltb _ _ k)

    pub report_answer_lem : output_size ≤ length out → answered (accepted j) cells out ≡ reported j cells out
    unfolding answered
    report_answer_lem k = cond-false (ltb (length cells) (space_needed j.deck j.rounds)) _ _ (le→nltb _ _ h)
        ∙ cond-false (ltb (length out) output_size) _ _ (le→nltb _ _ k)

module _ (job : List ℕ) (cells : List ℤ) (out : List ℕ) where
  -- ---- how the call ends
  pub call_of : (r : Result) → read_job job ≡ r → report_call job cells out ≡ answered r cells out
  unfolding report_call
  call_of r e = ap (λ (r : Result). answered r cells out) e

  pub refused_call : (why : Refusal) → read_job job ≡ refused why → report_call job cells out ≡ turned_down why cells out
  unfolding answered
  refused_call why e = call_of (refused why) e

  space_call : (j : Job) → read_job job ≡ accepted j → length cells < space_needed j.deck j.rounds →
      report_call job cells out ≡ turned_down SmallSpace cells out
  space_call j e h = call_of (accepted j) e ∙ small_answer j cells out h

  output_call : (j : Job) → read_job job ≡ accepted j → space_needed j.deck j.rounds ≤ length cells → length out < output_size →
      report_call job cells out ≡ turned_down ShortOutput cells out
  output_call j e h k = call_of (accepted j) e ∙ short_answer j cells out h k

  call_accepted : (j : Job) → Accepted job cells out j → report_call job cells out ≡ reported j cells out
  call_accepted j a = call_of (accepted j) a.read ∙ report_answer_lem j cells out a.space a.output

  -- in one of these ways: a refusal applies, or the job is accepted
  pub data Ends : Type 0 where
    refusing : (why : Refusal) → Applies job cells out why → report_call job cells out ≡ turned_down why cells out → Ends
    reporting : (j : Job) → Accepted job cells out j → Ends

  pub ends : Ends
  ends = go (read_job job) refl
    where
      go : (r : Result) → read_job job ≡ r → Ends
      go (refused why) e = refusing why (in_reading ((refused_job job why).0 e)) (refused_call why e)
      go (accepted j) e =
          ⊎_elim (λ t. let h = ltb→lt _ _ t in refusing SmallSpace (small_space j e h) (space_call j e h))
          (λ t. let h = nltb→le _ _ t in ⊎_elim (λ u. let k = ltb→lt _ _ u in
          refusing ShortOutput (short_output j e h k) (output_call j e h k)) (λ u. reporting j (record { read = e; space = h; output = nltb→le _ _ u }))
          (test (ltb (length out) output_size)))
          (test (ltb (length cells) (space_needed j.deck j.rounds)))

  answer_of : (left : Left) → report_call job cells out ≡ left → (report_call job cells out).answer ≡ left.answer
  answer_of left e = ap (λ (l : Left). l.answer) e

  -- ---- promise 2
  pub reports : (j : Job) → Accepted job cells out j → Reported job cells out j
  unfolding reported
  reports j a = let e = call_accepted j a in record {
    answer = ap (λ (l : Left). l.answer) e;
    text = ap (λ (l : Left). l.out) e;
    text_fits = text_fits j ((read_exactly job j).0 a.read).1;
    cell_space = ap (λ (l : Left). l.cells) e;
  }

  promise_2 : Promise2 job cells out
  promise_2 = record { read_exactly = read_exactly job; fault_exactly = refused_job job; reported = reports }

  -- the figures that an accepted job gets
  pub figures_are : (j : Job) (f : Figures) → Accepted job cells out j → (report_call job cells out).answer ≡ gives f → job_figures j ≡ f
  figures_are j f a e = same_given (job_figures j) f (sym (reports j a).answer ∙ e)

  -- ---- promise 1
  pub refuses_so : (why : Refusal) → Applies job cells out why → report_call job cells out ≡ turned_down why cells out
  refuses_so why (in_reading c) = refused_call why ((refused_job job why).1 c)
  refuses_so _ (small_space j e h) = space_call j e h
  refuses_so _ (short_output j e h k) = output_call j e h k

  -- an answer that refuses
  pub refused_one : (number line : ℕ) → (report_call job cells out).answer ≡ refuses number line →
      (why : Refusal) × Applies job cells out why × (report_call job cells out ≡ turned_down why cells out)
  refused_one number line e = go ends
    where
      go : Ends → (why : Refusal) × Applies job cells out why × (report_call job cells out ≡ turned_down why cells out)
      go (refusing why c f) = (why, c, f)
      go (reporting j a) = absurd (not_refused (job_figures j) number line (sym (reports j a).answer ∙ e))

  -- an answer that gives figures
  pub accepted_one : (f : Figures) → (report_call job cells out).answer ≡ gives f → (j : Job) × Accepted job cells out j
  accepted_one f e = go ends
    where
      go : Ends → (j : Job) × Accepted job cells out j
      go (refusing why c g) = absurd (not_refused f (number_of why) (line_of why) (sym e ∙ answer_of _ g))
      go (reporting j a) = (j, a)

  given : (why : Refusal) → (report_call job cells out).answer ≡ refusal why → Applies job cells out why
  given why e = let (w, c, f) = refused_one (number_of why) (line_of why) e in
      subst (λ (w : Refusal). Applies job cells out w) (same_refusal w why (sym (answer_of _ f) ∙ e)) c

  promise_1 : Promise1 job cells out
  promise_1 = record {
    reported_exactly = (λ r. accepted_one r.0 r.1, λ r. (job_figures r.0, (reports r.0 r.1).answer));
    refused_exactly = λ why. (given why, λ h. answer_of (turned_down why cells out) (refuses_so why h));
    refused_listed = λ number line e. let (w, c, f) = refused_one number line e in let g = sym e ∙ answer_of _ f in
        (w, same_number number line (number_of w) (line_of w) g, same_line number line (number_of w) (line_of w) g);
    refused_cells = λ number line e. ap (λ (l : Left). l.cells) (refused_one number line e).2;
    refused_out = λ number line e. ap (λ (l : Left). l.out) (refused_one number line e).2;
  }

-- ---- promise 3
promise_3 : (job : List ℕ) (cells : List ℤ) (out : List ℕ) (j : Job) (f : Figures) → Accepted job cells out j → (report_call job cells out).answer ≡ gives f →
    Promise3Report j f
promise_3 job cells out j f a e =
    let allowed = ((read_exactly job j).0 a.read).1 in
    let law = Query.promise_3 j.deck allowed.area_full in
    let same = figures_are job cells out j f a e in record {
      law = subst (Promise3 j.deck j.rounds) same (law j.rounds);
      one_more_low = λ job' cells' out' f' a' e'. subst₂ (λ (p q : Figures). p.low ≤ℤ q.low) same (figures_are job' cells' out' (one_more j) f' a' e')
          (law j.rounds).low_rises;
      one_more_high = λ job' cells' out' f' a' e'. subst₂ (λ (p q : Figures). q.high ≤ p.high) same (figures_are job' cells' out' (one_more j) f' a' e')
          (law j.rounds).high_falls;
      one_more_read = λ carried s h. (read_exactly (spell carried (one_more j)) (one_more j)).1 (spells_more carried j s, allowed_more j h allowed);
      every_n = law;
    }

pub promises : (job : List ℕ) (cells : List ℤ) (out : List ℕ) → Promises job cells out
promises job cells out = record { promise_1 = promise_1 job cells out; promise_2 = promise_2 job cells out; promise_3 = promise_3 job cells out }
