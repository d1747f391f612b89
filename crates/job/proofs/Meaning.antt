-- What reading a job's bytes gives, exactly: the statements of specs/Meaning.antt.
use mathlib.Core.Path.{◌≡◌, refl, ap, subst, ◌∙◌}
use mathlib.Core.Bool.{Bool, false, not}
use mathlib.Core.Logic.{◌↔◌}
use mathlib.Core.List.{List, flatten}
use Prim.Native.Nat.{ℕ, ◌≤◌}
use native.Mathlib.Omega.{arith}
use lib.Dec.{T, ltb, ltb→lt, lt→ltb, nltb→le}
use lib.Arith.{le→nltb}
use lib.ListN.{length}
use lib.Signed.{lt_z}
use Rattle.numbers.specs.Lists.{non_empty}
use Rattle.numbers.proofs.Truth.{holds, fails, cond_ind, cond-true, cond-false, nor_left, nor_right, nor_intro}
use Rattle.numbers.proofs.Members.{length_non_empty, non_empty_length, non_empty_iff, empty_iff}
use Rattle.numbers.proofs.Integer.{order}
use Rattle.query.specs.Place.{Rect, NonEmpty}
use Rattle.query.specs.Deck.{AxisCosts}
use Rattle.query.specs.Range.{InRange}
use Rattle.job_line.specs.Kinds.{axis, in_ranges}
use Rattle.job_line.specs.OneLine.{Reading, fault, got}
use Rattle.job.specs.Format.{Job, axis_numbers, job_lines, Result, refused, accepted, empty_area, checked, reading_result, size_limit}
use Rattle.job.specs.Format.{text_with, read_with, missing_axis, read_job}
use Rattle.job.specs.Spelling.{spell, Spells, with_line, without_line, Writable, Allowed}
use Rattle.job.specs.Meaning.{AcceptedLaw, SpellingLaw, top, Spelled, Condition, too_long, in_text, TextCondition, malformed, out_of_range}
use Rattle.job.specs.Meaning.{empty_area_law, no_posts, no_stops, RefusedLaw}
use Rattle.refusal.specs.declared.Refusal.{Refusal}
use Rattle.refusal.specs.declared.Refusal.TheVariants.{Malformed, OutOfRange}
use Rattle.job.proofs.ReaderLaws.{Ranged}
use Rattle.job.proofs.JobLaws.{Got, job_got, got_spells, got_writable, job_gets, read_as, read_same, line_dropped, line_tells, spell_length}
use Rattle.job.proofs.JobLaws.{ranged_area, ranged_axis, ranged_posts, ranged_stops, most_posts, most_stops}
use Rattle.job.proofs.Faults.{Faults, all_due, job_faults, first_fault_lem, malformed_faults, range_faults}

-- what each result says of the text, and of the bytes where their size counts
abbrev Says : AxisCosts → Result → List ℕ → Type 0
Says missing (refused why) bytes = TextCondition bytes why
Says missing (accepted job) bytes = Spells missing bytes job × (Ranged axis (axis_numbers missing) → Allowed job)

abbrev SaysSized : AxisCosts → Result → List ℕ → Type 0
SaysSized missing (refused why) bytes = Condition bytes why
SaysSized missing (accepted job) bytes = (length bytes ≤ size_limit) × Spells missing bytes job × (Ranged axis (axis_numbers missing) → Allowed job)

-- ---- the result is so
full_area : (r : Rect) → T (not (empty_area r)) ↔ NonEmpty r
unfolding empty_area
full_area r = (
  λ t. let across = nor_left (lt_z r.xhi r.xlo) (lt_z r.yhi r.ylo) t in let deep = nor_right (lt_z r.xhi r.xlo) (lt_z r.yhi r.ylo) t in
      omega (arith, order),
  λ h. nor_intro (lt_z r.xhi r.xlo) (lt_z r.yhi r.ylo) (omega (arith, order)) (omega (arith, order)),
)

checked_says : (missing : AxisCosts) (bytes : List ℕ) (job : Job) → Got missing bytes job → Says missing (checked job) bytes
unfolding checked
checked_says missing bytes job g =
    cond_ind (λ (r : Result). Says missing r bytes) (empty_area job.deck.area) (λ t. empty_area_law spelled t)
    (λ t. cond_ind (λ (r : Result). Says missing r bytes) (non_empty job.deck.posts)
    (λ p. cond_ind (λ (r : Result). Says missing r bytes) (non_empty job.deck.stops)
    (λ s. (
      got_spells g,
      λ i. record {
        writable = got_writable g i;
        area_full = (full_area job.deck.area).0 t;
        some_posts = non_empty_length job.deck.posts p;
        some_stops = non_empty_length job.deck.stops s;
      },
    ))
    (λ s. no_stops spelled t ((non_empty_iff job.deck.posts).0 p) ((empty_iff job.deck.stops).0 s)))
    (λ p. no_posts spelled t ((empty_iff job.deck.posts).0 p)))
  where
    spelled : Spelled bytes
    spelled = record { carried = g.carried; job = job; writable = g.writable; spelled = g.spelled }

text_says : (missing : AxisCosts) (bytes : List ℕ) → Says missing (text_with missing bytes) bytes
unfolding flatten
text_says missing bytes = go (job_lines missing 1 bytes) refl
  where
    go : (r : Reading Job) → job_lines missing 1 bytes ≡ r → Says missing (reading_result r) bytes
    go (fault why) e = first_fault_lem bytes top refl refl ((job_faults missing 1 bytes why).0 e)
    go (got job n rest) e = checked_says missing bytes job (job_got missing 1 bytes job n rest e)

read_says : (missing : AxisCosts) (bytes : List ℕ) → SaysSized missing (read_with missing bytes) bytes
unfolding read_with
read_says missing bytes = cond_ind (λ (r : Result). SaysSized missing r bytes) (ltb size_limit (length bytes))
    (λ t. too_long (ltb→lt size_limit (length bytes) t))
    (λ t. go (nltb→le size_limit (length bytes) t) (text_with missing bytes) (text_says missing bytes))
  where
    go : length bytes ≤ size_limit → (r : Result) → Says missing r bytes → SaysSized missing r bytes
    go short (refused why) c = in_text short c
    go short (accepted job) c = (short, c.0, c.1)

-- ---- no other result is so
pub read_short : (missing : AxisCosts) (bytes : List ℕ) → length bytes ≤ size_limit → read_with missing bytes ≡ text_with missing bytes
unfolding read_with
read_short missing bytes short = cond-false (ltb size_limit (length bytes)) _ _ (le→nltb size_limit (length bytes) short)

pub text_fault : (missing : AxisCosts) (bytes : List ℕ) (why : Refusal) → Faults all_due 1 bytes why → text_with missing bytes ≡ refused why
text_fault missing bytes why f = ap reading_result ((job_faults missing 1 bytes why).1 f)

-- a spelling of a job, with the costs that stand for a missing line where the line is missing
text_read : {carried : Bool} (missing : AxisCosts) (bytes : List ℕ) (job : Job) → bytes ≡ spell carried job → Writable carried job →
    text_with missing bytes ≡ checked (read_as carried missing job)
text_read missing bytes job e w = ap (text_with missing) e ∙ ap reading_result (job_gets missing 1 job w).1

pub text_checked : {carried : Bool} (missing : AxisCosts) (bytes : List ℕ) (job : Job) → bytes ≡ spell carried job → Writable carried job →
    (T (not carried) → job.deck.axis ≡ missing) → text_with missing bytes ≡ checked job
text_checked {carried} missing bytes job e w h = text_read missing bytes job e w ∙ ap checked (read_same carried missing job h)

condition_text : (missing : AxisCosts) (bytes : List ℕ) (why : Refusal) → TextCondition bytes why → text_with missing bytes ≡ refused why
unfolding checked
condition_text missing bytes _ (malformed {n} f) = text_fault missing bytes (Malformed n) (malformed_faults bytes n f)
condition_text missing bytes _ (out_of_range {n} f) = text_fault missing bytes (OutOfRange n) (range_faults bytes n f)
condition_text missing bytes _ (empty_area_law s t) = text_read missing bytes s.job s.spelled s.writable ∙ rw (holds (empty_area s.job.deck.area) t)
condition_text missing bytes _ (no_posts s t p) = text_read missing bytes s.job s.spelled s.writable
    ∙ rw (fails (empty_area s.job.deck.area) t, fails (non_empty s.job.deck.posts) ((empty_iff s.job.deck.posts).1 p))
condition_text missing bytes _ (no_stops s t p q) = text_read missing bytes s.job s.spelled s.writable
    ∙ rw (
      fails (empty_area s.job.deck.area) t,
      holds (non_empty s.job.deck.posts) ((non_empty_iff s.job.deck.posts).1 p),
      fails (non_empty s.job.deck.stops) ((empty_iff s.job.deck.stops).1 q),
    )

condition_read : (missing : AxisCosts) (bytes : List ℕ) (why : Refusal) → Condition bytes why → read_with missing bytes ≡ refused why
unfolding read_with
condition_read missing bytes _ (too_long h) = cond-true (ltb size_limit (length bytes)) _ _ (lt→ltb size_limit (length bytes) h)
condition_read missing bytes why (in_text short c) = read_short missing bytes short ∙ condition_text missing bytes why c

pub allowed_text : (missing : AxisCosts) (bytes : List ℕ) (job : Job) → Spells missing bytes job → Allowed job → text_with missing bytes ≡ accepted job
unfolding checked
allowed_text missing bytes job e a = spelled e
    ∙ rw (
      fails (empty_area job.deck.area) ((full_area job.deck.area).1 a.area_full),
      holds (non_empty job.deck.posts) (length_non_empty job.deck.posts a.some_posts),
      holds (non_empty job.deck.stops) (length_non_empty job.deck.stops a.some_stops),
    )
  where
    spelled : Spells missing bytes job → text_with missing bytes ≡ checked job
    spelled (with_line e) = text_checked missing bytes job e a.writable (λ t. absurd t)
    spelled (without_line e c) = text_checked missing bytes job e (line_dropped a.writable false) (λ t. c)

-- ---- the laws
pub accepted_law : (missing : AxisCosts) (bytes : List ℕ) (job : Job) → AcceptedLaw missing bytes job
accepted_law missing bytes job = record {
  exactly = λ t. (
    λ e. let says = subst (λ (r : Result). SaysSized missing r bytes) e (read_says missing bytes) in (says.0, says.1, says.2 t),
    λ c. read_short missing bytes c.0 ∙ allowed_text missing bytes job c.1 c.2,
  );
}

pub refused_law : (missing : AxisCosts) (bytes : List ℕ) (why : Refusal) → RefusedLaw missing bytes why
refused_law missing bytes why = record {
  exactly = (λ e. subst (λ (r : Result). SaysSized missing r bytes) e (read_says missing bytes), condition_read missing bytes why);
  exactly_in_text = (λ e. subst (λ (r : Result). Says missing r bytes) e (text_says missing bytes), condition_text missing bytes why);
}

pub text_accepted : (missing : AxisCosts) (bytes : List ℕ) (job : Job) → Ranged axis (axis_numbers missing) → text_with missing bytes ≡ accepted job →
    Spells missing bytes job × Allowed job
text_accepted missing bytes job t e = let says = subst (λ (r : Result). Says missing r bytes) e (text_says missing bytes) in (says.0, says.1 t)

pub spelling_law : (job : Job) → SpellingLaw job
spelling_law job = record {
  fits = λ a carried. omega (arith, spell_length job (line_dropped a.writable carried));
  longest = λ a carried. spell_length job (line_dropped a.writable carried);
  one_job = λ missing bytes other a b s t. cc (allowed_text missing bytes job s a, allowed_text missing bytes other t b);
  left_out = λ missing. (costs missing, λ e. without_line refl e);
}
  where
    costs : (missing : AxisCosts) → Spells missing (spell false job) job → job.deck.axis ≡ missing
    costs missing (with_line e) = absurd (line_tells job e)
    costs missing (without_line e c) = c

-- ---- a job as every call reads it
pub job_with : (bytes : List ℕ) → read_job bytes ≡ read_with missing_axis bytes
unfolding read_job
job_with bytes = refl

pub missing_ranged : Ranged axis (axis_numbers missing_axis)
unfolding in_ranges
missing_ranged = tt

pub accepted_job : (bytes : List ℕ) (job : Job) → (read_job bytes ≡ accepted job) ↔ ((length bytes ≤ size_limit) × Spells missing_axis bytes job × Allowed job)
accepted_job bytes job = rw (job_with bytes) ((accepted_law missing_axis bytes job).exactly missing_ranged)

pub refused_job : (bytes : List ℕ) (why : Refusal) → (read_job bytes ≡ refused why) ↔ Condition bytes why
refused_job bytes why = rw (job_with bytes) (refused_law missing_axis bytes why).exactly

-- an accepted job's deck is one of those that the searches are proved for
pub allowed_in_range : (job : Job) → Allowed job → InRange job.deck
allowed_in_range job a =
    let w = a.writable in
    record {
      axis_some = (ranged_axis w).0;
      axis_most = (ranged_axis w).1;
      area = ranged_area w;
      posts = ranged_posts w;
      some_posts = a.some_posts;
      most_posts = most_posts w;
      stops = ranged_stops w;
      some_stops = a.some_stops;
      most_stops = most_stops w;
    }
