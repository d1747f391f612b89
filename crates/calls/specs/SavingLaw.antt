-- What the calls `read` and `write` are held to (RULES "Change 1", "Change 2", "Change 5"), over every job's bytes, every record that the
-- code can hold, any rounds and every output.
use Rattle.std.specs.Prelude.{ℕ, ◌+◌, ◌≤◌, ◌<◌, ◌≡◌, true, false, ◌↔◌, ◌≢◌, List, length, take, drop}
use Rattle.query.specs.Deck.{plain}
use Rattle.query.specs.Range.{posts_limit, stops_limit}
use Rattle.deck.specs.DeckOf.{Sized, deck_of, with_figures}
use Rattle.deck.specs.declared.Deck.{Deck}
use Rattle.refusal.specs.Refusal.{number_of, line_of}
use Rattle.refusal.specs.declared.Refusal.{Refusal}
use Rattle.refusal.specs.declared.Refusal.TheVariants.{ShortOutput}
use Rattle.job.specs.Format.{Job, refused, accepted, read_text, read_job}
use Rattle.job.specs.Spelling.{spell, Allowed}
use Rattle.job.specs.Meaning.{longest_job, TextCondition, Condition}
use Rattle.job.specs.File.{held_job, saved_spelling, file_text}
use Rattle.job.specs.declared.Job as Held
use Rattle.write.specs.Written.{overwritten}
use Rattle.calls.specs.Answers.{gives, refuses, refusal}
use Rattle.job.specs.JobRecord.{job_record}
use Rattle.calls.specs.ReadCall.{read_call}
use Rattle.calls.specs.WriteCall.{write_call}

-- ---- reading
-- a job that carries the line `axis=1,1`, which says what a missing line says
pub record SpellsOut (job : List ℕ) (j : Job) : Type 0 where
  pub spelled : job ≡ spell true j
  pub costs : j.deck.axis ≡ plain

pub record ReadLaw (job : List ℕ) : Type 0 where
  -- the refusals are those of reading, each exactly under its condition, and no other number and line
  pub refused_exactly : (why : Refusal) → (read_call job ≡ refusal why) ↔ Condition job why
  pub refused_listed : (number line : ℕ) → read_call job ≡ refuses number line → (why : Refusal)
      × (number ≡ number_of why) × (line ≡ line_of why)
  -- an accepted job, and no other, is read as the record of its deck and its rounds; that record holds the deck, and its arrays are whole
  pub given_exactly : (held : Held.Job) →
      (read_call job ≡ gives held) ↔ ((j : Job) × (read_job job ≡ accepted j) × (held ≡ job_record j))
  pub given : (j : Job) → read_job job ≡ accepted j → read_call job ≡ gives (job_record j)
  pub held : (held : Held.Job) → read_call job ≡ gives held → read_job job ≡ accepted (held_job held.deck held.rounds)
  pub sized : (held : Held.Job) → read_call job ≡ gives held → Sized held.deck
  -- what is read, written again, has the bytes of the job; but one that spells out `axis=1,1` comes out without that line, which is nine
  -- bytes
  pub own_bytes : (j : Job) (out : List ℕ) → read_job job ≡ accepted j → (SpellsOut job j → ⊥) → length job ≤ length out →
      write_call (job_record j).deck j.rounds out ≡ record { answer = gives (length job); out = overwritten job out }
  pub line_left_out : (j : Job) (out : List ℕ) → read_job job ≡ accepted j → SpellsOut job j → length (spell false j) ≤ length out →
      write_call (job_record j).deck j.rounds out
      ≡ record { answer = gives (length (spell false j)); out = overwritten (spell false j) out }
  pub nine_bytes : (j : Job) → SpellsOut job j → length job ≡ length (spell false j) + 9

-- ---- writing
-- a record and rounds whose file the reader accepts
pub record Saveable (deck : Deck) (rounds : ℕ) : Type 0 where
  pub allowed : Allowed (held_job deck rounds)
  pub few_posts : deck.post_count ≤ posts_limit
  pub few_stops : deck.stop_count ≤ stops_limit

-- a refusal applies to a record, rounds and an output: one that reading the file's text gives, then 8
pub data WriteApplies (deck : Deck) (rounds : ℕ) (out : List ℕ) : Refusal → Type 0 where
  in_file : {why : Refusal} → TextCondition (file_text deck rounds) why → WriteApplies deck rounds out why
  short_output : Saveable deck rounds → length out < length (saved_spelling (held_job deck rounds))
      → WriteApplies deck rounds out ShortOutput

-- where n bytes were written
pub record WrittenLaw (deck : Deck) (rounds : ℕ) (out : List ℕ) (n : ℕ) : Type 0 where
  -- the output is as long as before, and the bytes behind the job stay
  pub same_length : length (write_call deck rounds out).out ≡ length out
  pub later_kept : drop n (write_call deck rounds out).out ≡ drop n out
  -- what is written is read as the deck and the rounds that were held
  pub reads_back : read_job (take n (write_call deck rounds out).out) ≡ accepted (held_job deck rounds)
  pub reads_back_record : read_call (take n (write_call deck rounds out).out) ≡ gives (job_record (held_job deck rounds))
  pub longest : n ≤ longest_job
  -- who writes the same bytes holds the same deck and rounds
  pub one_job : (other : Deck) (more : ℕ) (lent : List ℕ) (m : ℕ) → Sized other → (write_call other more lent).answer ≡ gives m →
      take n (write_call deck rounds out).out ≡ take m (write_call other more lent).out → held_job deck rounds ≡ held_job other more

pub record WriteLaw (deck : Deck) (rounds : ℕ) (out : List ℕ) : Type 0 where
  -- each refusal exactly under its condition, and no other number and line
  pub refused_exactly : (why : Refusal) → ((write_call deck rounds out).answer ≡ refusal why) ↔ WriteApplies deck rounds out why
  pub refused_listed : (number line : ℕ) → (write_call deck rounds out).answer ≡ refuses number line → (why : Refusal)
      × (number ≡ number_of why) × (line ≡ line_of why)
  -- those but for 8 exactly where reading the file's text gives them; so a record gets what the call `read` gives for its file, 1 aside
  pub refused_as_read : (why : Refusal) → why ≢ ShortOutput → ((write_call deck rounds out).answer ≡ refusal why)
      ↔ (read_text (file_text deck rounds) ≡ refused why)
  pub as_its_file : (number line : ℕ) → read_call (file_text deck rounds) ≡ refuses number line → number ≢ 1 →
      (write_call deck rounds out).answer ≡ refuses number line
  -- no job has more lines: five beside the posts and the stops
  pub few_lines : (number line : ℕ) → (write_call deck rounds out).answer ≡ refuses number line → line ≤ posts_limit + stops_limit + 5
  -- a refusal leaves the output as it was
  pub refused_out : (number line : ℕ) → (write_call deck rounds out).answer ≡ refuses number line → (write_call deck rounds out).out ≡ out
  -- it is written exactly where the reader accepts its file and there is room, and then as the spelling of its job, which its file is
  pub written_exactly : ((n : ℕ) × ((write_call deck rounds out).answer ≡ gives n)) ↔ (Saveable deck rounds
      × (length (saved_spelling (held_job deck rounds)) ≤ length out))
  pub file : Saveable deck rounds → file_text deck rounds ≡ saved_spelling (held_job deck rounds)
  pub given : Saveable deck rounds → let text = saved_spelling (held_job deck rounds) in
      length text ≤ length out → write_call deck rounds out ≡ record { answer = gives (length text); out = overwritten text out }
  pub written : (n : ℕ) → (write_call deck rounds out).answer ≡ gives n → WrittenLaw deck rounds out n
  -- a record with the same counts that holds the same deck is written alike, whatever stands behind its lists
  pub same_file : (other : Deck) → deck_of other ≡ deck_of deck → other.post_count ≡ deck.post_count → other.stop_count ≡ deck.stop_count →
      write_call other rounds out ≡ write_call deck rounds out
  -- nor do near and before matter
  pub other_figures : (nears : List ℕ) (paid : ℕ) → write_call (with_figures deck nears paid) rounds out ≡ write_call deck rounds out
