-- RULES "Promise 1" and "Promise 2" of the reader: what an accepted job's bytes are, and what each refusal says of the bytes.
use Rattle.std.specs.Prelude.{ℕ, suc, ◌≤◌, ◌<◌, ◌≡◌, Bool, not, cond, false, ◌↔◌, ◌≢◌, T, ℤ, length, replicate}
use mathlib.Core.List.{List, [], ◌∷◌, ◌++◌, flatten}
use Rattle.std.proofs.Math.Option.{none, some}
use Rattle.query.specs.Deck.{AxisCosts}
use Rattle.text.specs.TextReading.{starts_with}
use Rattle.job_line.specs.Kinds.{Kind, area, axis, posts, post, stops, stop, rounds, row, form_of, in_ranges}
use Rattle.job.specs.Format.{Job, axis_numbers, count_of, size_limit, refused, accepted, text_with, read_with, empty_area}
use Rattle.job.specs.Spelling.{spell, Spells, Writable, Allowed}
use Rattle.refusal.specs.declared.Refusal.{Refusal}
use Rattle.refusal.specs.declared.Refusal.TheVariants.{TooLong, Malformed, OutOfRange, EmptyArea, NoPosts, NoStops}

-- RULES "Promise 2": the bytes that are accepted as a job are its spellings. A missing axis line means these costs, which are in range
pub record AcceptedLaw (missing : AxisCosts) (bytes : List ℕ) (job : Job) : Type 0 where
  pub exactly : T (in_ranges (row axis).ranges (axis_numbers missing)) →
      (read_with missing bytes ≡ accepted job) ↔ ((length bytes ≤ size_limit) × Spells missing bytes job × Allowed job)

-- the bytes of the longest job that is allowed
abbrev pub longest_job : ℕ
longest_job = 14089

-- no bytes spell two allowed jobs, the spelling without the line is one of a job's exactly if its costs are what a missing line means, and
-- every allowed job's spellings fit the size limit
pub record SpellingLaw (job : Job) : Type 0 where
  pub fits : Allowed job → (carried : Bool) → length (spell carried job) ≤ size_limit
  pub longest : Allowed job → (carried : Bool) → length (spell carried job) ≤ longest_job
  pub one_job : (missing : AxisCosts) (bytes : List ℕ) (other : Job) → Allowed job → Allowed other → Spells missing bytes job →
      Spells missing bytes other → job ≡ other
  pub left_out : (missing : AxisCosts) → Spells missing (spell false job) job ↔ (job.deck.axis ≡ missing)

-- ---- refusals
-- the lines that a line makes due, where this text follows it
abbrev pub due_after : Kind → List ℤ → List ℕ → List Kind
due_after area ns rest = cond (starts_with (row axis).key rest) (axis ∷ []) []
due_after axis ns rest = []
due_after posts ns rest = replicate (count_of ns) post
due_after post ns rest = []
due_after stops ns rest = replicate (count_of ns) stop
due_after stop ns rest = []
due_after rounds ns rest = []

-- these lines are, from the top, lines that were due, each with its form and its ranges; this text follows; and these kinds of lines are
-- due next
pub data Good : List (List ℕ) → List ℕ → List Kind → Type 0 where
  top : {rest : List ℕ} → Good [] rest (area ∷ posts ∷ stops ∷ rounds ∷ [])
  one_more : {lines : List (List ℕ)} {rest : List ℕ} {kind : Kind} {due : List Kind} (text : List ℕ) (ns : List ℤ) →
      Good lines (text ++ rest) (kind ∷ due) → form_of (row kind) text ≡ some (ns, []) → T (in_ranges (row kind).ranges ns) →
      Good (lines ++ (text ∷ [])) rest (due_after kind ns rest ++ due)

-- the first fault is in line n: the line that is due there is missing or has not its form, or none is due and text is left
pub data FirstMalformed (bytes : List ℕ) (n : ℕ) : Type 0 where
  no_form : (lines : List (List ℕ)) (rest : List ℕ) (kind : Kind) (due : List Kind) → Good lines rest (kind ∷ due) →
      bytes ≡ flatten lines ++ rest → n ≡ suc (length lines) → form_of (row kind) rest ≡ none → FirstMalformed bytes n
  too_much : (lines : List (List ℕ)) (rest : List ℕ) → Good lines rest [] → bytes ≡ flatten lines ++ rest → n ≡ suc (length lines) →
      rest ≢ [] → FirstMalformed bytes n

-- the first fault is in line n, which has its form and a value out of range
pub record FirstOutOfRange (bytes : List ℕ) (n : ℕ) : Type 0 where
  pub lines : List (List ℕ)
  pub rest : List ℕ
  pub after : List ℕ
  pub kind : Kind
  pub due : List Kind
  pub before : Good lines rest (kind ∷ due)
  pub split : bytes ≡ flatten lines ++ rest
  pub number : n ≡ suc (length lines)
  pub numbers : List ℤ
  pub form : form_of (row kind) rest ≡ some (numbers, after)
  pub range : T (not (in_ranges (row kind).ranges numbers))

-- the bytes spell a job, and the values of all their lines are in range, so that only refusals 4 to 6 are left
pub record Spelled (bytes : List ℕ) : Type 0 where
  pub carried : Bool
  pub job : Job
  pub writable : Writable carried job
  pub spelled : bytes ≡ spell carried job

-- RULES "Refusals": the condition of each refusal of a job's text, which reading gives whatever its size
pub data TextCondition (bytes : List ℕ) : Refusal → Type 0 where
  malformed : {n : ℕ} → FirstMalformed bytes n → TextCondition bytes (Malformed n)
  out_of_range : {n : ℕ} → FirstOutOfRange bytes n → TextCondition bytes (OutOfRange n)
  empty_area_law : (s : Spelled bytes) → T (empty_area s.job.deck.area) → TextCondition bytes EmptyArea
  no_posts : (s : Spelled bytes) → T (not (empty_area s.job.deck.area)) → s.job.deck.posts ≡ [] → TextCondition bytes NoPosts
  no_stops : (s : Spelled bytes) → T (not (empty_area s.job.deck.area)) → s.job.deck.posts ≢ [] → s.job.deck.stops ≡ [] →
      TextCondition bytes NoStops

-- and of refusal 1, which comes before those
pub data Condition (bytes : List ℕ) : Refusal → Type 0 where
  too_long : size_limit < length bytes → Condition bytes TooLong
  in_text : {why : Refusal} → length bytes ≤ size_limit → TextCondition bytes why → Condition bytes why

-- RULES "Promise 1" of the reader: each refusal exactly on its condition, whatever a missing axis line means
pub record RefusedLaw (missing : AxisCosts) (bytes : List ℕ) (why : Refusal) : Type 0 where
  pub exactly : (read_with missing bytes ≡ refused why) ↔ Condition bytes why
  pub exactly_in_text : (text_with missing bytes ≡ refused why) ↔ TextCondition bytes why
