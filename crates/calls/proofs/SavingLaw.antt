-- What the calls `read` and `write` are held to.
use mathlib.Core.Path.{◌≡◌, refl, sym, ap, ap₂, subst, ◌∙◌}
use mathlib.Core.Bool.{Bool, true, false}
use mathlib.Core.Logic.{◌↔◌, ◌≢◌, ⊎_elim}
use mathlib.Core.List.{List, ◌++◌, flat_map}
use Prim.Native.Nat.{ℕ, ◌+◌, ◌≤◌, ◌<◌}
use native.Mathlib.Omega.{arith}
use lib.Arith.{le→nltb}
use lib.Dec.{ltb, ltb→lt, lt→ltb, nltb→le}
use lib.ListN.{length, take, drop, length-append, length-drop}
use lib.Seq.{take_at, drop_at}
use Rattle.numbers.proofs.Truth.{test, cond-true, cond-false}
use Rattle.job.proofs.Meaning.{allowed_in_range}
use Rattle.query.specs.Deck as Query
use Rattle.query.specs.Deck.{AxisCosts, plain}
use Rattle.query.specs.Range.{posts_limit, stops_limit}
use Rattle.deck.specs.DeckOf.{Sized, deck_of, deck_record, with_figures}
use Rattle.deck.specs.declared.Deck.{Deck}
use Rattle.deck.proofs.DeckLaws.{held_deck}
use Rattle.deck.proofs.SoundLaws.{record_sized}
use Rattle.refusal.specs.Refusal.{number_of, line_of}
use Rattle.refusal.specs.declared.Refusal.{Refusal}
use Rattle.refusal.specs.declared.Refusal.TheVariants.{ShortOutput}
use Rattle.job.specs.Format.{Job, Result, refused, accepted, missing_axis, read_text, read_job}
use Rattle.job.specs.Spelling.{area_line, axis_line, later_lines, lines_counting, spell_line, spell, Spells, with_line, without_line, Allowed}
use Rattle.job.specs.Meaning.{TextCondition, Condition, too_long, in_text}
use Rattle.job.specs.declared.Job as Held
use Rattle.job.specs.File.{held_job, writes_axis, saved_spelling, file_text}
use Rattle.job.proofs.JobLaws.{most_posts, most_stops}
use Rattle.job.proofs.Meaning.{refused_law, refused_job, spelling_law, allowed_text}
use Rattle.job_check.specs.LineFaults.{refusal_in}
use Rattle.job_check.proofs.AxisLaws.{left_out, saved_spells}
use Rattle.job_check.proofs.FileFaults.{file_is, file_spelled, file_line}
use Rattle.write.specs.Written.{overwritten}
use Rattle.calls.specs.Answers.{gives, refuses, refusal}
use Rattle.job.specs.JobRecord.{job_record}
use Rattle.calls.specs.ReadCall.{read_call}
use Rattle.calls.specs.WriteCall.{Saved, not_saved, saved_as, write_call}
use Rattle.calls.specs.SavingLaw.{SpellsOut, ReadLaw, Saveable, WriteApplies, in_file, short_output, WrittenLaw, WriteLaw}
use Rattle.calls.proofs.AcceptedCall as Call
use Rattle.calls.proofs.AnswerLaws.{same_number, same_line, same_refusal, same_given, not_refused}
use Rattle.calls.proofs.Promises.{read_exactly}

-- ---- the spelling that is saved
pub plain_unwritten : (c : AxisCosts) → c ≡ plain → writes_axis c ≡ false
unfolding writes_axis
plain_unwritten c e = rw e

pub other_written : (c : AxisCosts) → (c ≡ plain → ⊥) → writes_axis c ≡ true
other_written c apart = go (writes_axis c) refl
  where
    go : (b : Bool) → writes_axis c ≡ b → writes_axis c ≡ true
    go true e = e
    go false e = absurd (apart (left_out c (rw e tt)))

-- `axis=1,1` and its byte 10 are nine bytes
nine : length (spell_line (axis_line plain)) ≡ 9
unfolding spell_line
nine = refl

line_length : (j : Job) → j.deck.axis ≡ plain → length (spell true j) ≡ length (spell false j) + 9
unfolding spell flat_map
line_length j e =
    let later = flat_map spell_line (later_lines (length j.deck.posts) (length j.deck.stops) j) in
    let first = spell_line (area_line j.deck.area) in
    let line : length (spell_line (axis_line j.deck.axis)) ≡ 9 = ap (λ (c : AxisCosts). length (spell_line (axis_line c))) e ∙ nine in
    omega (
      arith,
      length-append first (spell_line (axis_line j.deck.axis) ++ later),
      length-append (spell_line (axis_line j.deck.axis)) later,
      length-append first later,
      line,
    )

-- ---- bytes put over the front
module _ (text out : List ℕ) where
  front_taken : take (length text) (overwritten text out) ≡ text
  unfolding overwritten
  front_taken = take_at text (drop (length text) out) (length text) refl

  rest_kept : drop (length text) (overwritten text out) ≡ drop (length text) out
  unfolding overwritten
  rest_kept = drop_at text (drop (length text) out) (length text) refl

  length_kept : length text ≤ length out → length (overwritten text out) ≡ length out
  unfolding overwritten
  length_kept h = omega (arith, length-append text (drop (length text) out), length-drop (length text) out)

-- ---- the call `read`
module _ (job : List ℕ) where
  pub read_given : (j : Job) → read_job job ≡ accepted j → read_call job ≡ gives (job_record j)
  unfolding read_call
  read_given = Call.for_accepted_lem job_record job

  read_refuses : (why : Refusal) → (read_call job ≡ refusal why) ↔ Condition job why
  unfolding read_call
  read_refuses = Call.refused_exactly job_record job

  -- an answer that refuses
  refused_one : (number line : ℕ) → read_call job ≡ refuses number line →
      (why : Refusal) × (read_job job ≡ refused why) × (number ≡ number_of why) × (line ≡ line_of why)
  unfolding read_call
  refused_one = Call.refused_one job_record job

  -- and one that gives something
  pub read_accepted : (held : Held.Job) → read_call job ≡ gives held → (j : Job) × (read_job job ≡ accepted j) × (held ≡ job_record j)
  unfolding read_call
  read_accepted held e =
      let (j, g) = Call.accepted_one job_record job held e in (j, g, same_given _ _ (sym e ∙ read_given j g))

-- ---- the call `write`, by what reading the file gives
module _ (deck : Deck) (rounds : ℕ) (out : List ℕ) where
  pub file_refused : (why : Refusal) → read_text (file_text deck rounds) ≡ refused why → write_call deck rounds out ≡ not_saved why out
  unfolding write_call saved_as
  file_refused why e = ap (λ (r : Result). saved_as r (file_text deck rounds) out) e

  module _ (job : Job) (e : read_text (file_text deck rounds) ≡ accepted job) where
    pub file_short : length out < length (file_text deck rounds) → write_call deck rounds out ≡ not_saved ShortOutput out
    unfolding write_call saved_as
    file_short h = ap (λ (r : Result). saved_as r (file_text deck rounds) out) e
        ∙ cond-true (ltb (length out) (length (file_text deck rounds))) _ _ (lt→ltb _ _ h)

    pub file_written : length (file_text deck rounds) ≤ length out →
        write_call deck rounds out ≡ record { answer = gives (length (file_text deck rounds)); out = overwritten (file_text deck rounds) out }
    unfolding write_call saved_as
    file_written h = ap (λ (r : Result). saved_as r (file_text deck rounds) out) e
        ∙ cond-false (ltb (length out) (length (file_text deck rounds))) _ _ (le→nltb _ _ h)

-- ---- how it ends
module _ (deck : Deck) (rounds : ℕ) (out : List ℕ) (sized : Sized deck) where
  data Ends : Type 0 where
    refuses_file : (why : Refusal) → read_text (file_text deck rounds) ≡ refused why → write_call deck rounds out ≡ not_saved why out → Ends
    too_short : Saveable deck rounds → length out < length (saved_spelling (held_job deck rounds)) → write_call deck rounds out ≡ not_saved ShortOutput out
        → Ends
    writes : Saveable deck rounds → length (saved_spelling (held_job deck rounds)) ≤ length out → write_call deck rounds out
        ≡ record { answer = gives (length (saved_spelling (held_job deck rounds))); out = overwritten (saved_spelling (held_job deck rounds)) out } → Ends

  module _ (s : Saveable deck rounds) where
    same_text : file_text deck rounds ≡ saved_spelling (held_job deck rounds)
    same_text = file_spelled deck rounds sized s.few_posts s.few_stops

    saveable_read : read_text (file_text deck rounds) ≡ accepted (held_job deck rounds)
    saveable_read = allowed_text missing_axis (file_text deck rounds) (held_job deck rounds) (rw same_text (saved_spells (held_job deck rounds))) s.allowed

    short_ends : length out < length (saved_spelling (held_job deck rounds)) → write_call deck rounds out ≡ not_saved ShortOutput out
    short_ends h = file_short deck rounds out (held_job deck rounds) saveable_read (rw same_text h)

    written_ends : length (saved_spelling (held_job deck rounds)) ≤ length out → write_call deck rounds out
        ≡ record { answer = gives (length (saved_spelling (held_job deck rounds))); out = overwritten (saved_spelling (held_job deck rounds)) out }
    written_ends h = file_written deck rounds out (held_job deck rounds) saveable_read (rw same_text h)
        ∙ ap (λ (text : List ℕ). record { answer = gives (length text); out = overwritten text out }) same_text

  ends : Ends
  ends = go (read_text (file_text deck rounds)) refl
    where
      go : (r : Result) → read_text (file_text deck rounds) ≡ r → Ends
      go (refused why) e = refuses_file why e (file_refused deck rounds out why e)
      go (accepted job) e =
          let f = file_is deck rounds sized (ap refusal_in e) in
          let s : Saveable deck rounds = record { allowed = f.allowed; few_posts = f.few_posts; few_stops = f.few_stops } in
          ⊎_elim (λ t. let h = ltb→lt _ _ t in too_short s h (short_ends s h)) (λ t. let h = nltb→le _ _ t in writes s h (written_ends s h))
          (test (ltb (length out) (length (saved_spelling (held_job deck rounds)))))

  -- ---- refusals
  answer_of : {r : Saved} → write_call deck rounds out ≡ r → (write_call deck rounds out).answer ≡ r.answer
  answer_of e = ap (λ (r : Saved). r.answer) e

  condition : (why : Refusal) → read_text (file_text deck rounds) ≡ refused why → TextCondition (file_text deck rounds) why
  condition why = (refused_law missing_axis (file_text deck rounds) why).exactly_in_text.0

  applies : (why : Refusal) → (write_call deck rounds out).answer ≡ refusal why → WriteApplies deck rounds out why
  applies why e = go ends
    where
      go : Ends → WriteApplies deck rounds out why
      go (refuses_file w r p) = in_file (condition why (r ∙ ap refused (same_refusal w why (sym (answer_of p) ∙ e))))
      go (too_short s h p) = subst (WriteApplies deck rounds out) (same_refusal ShortOutput why (sym (answer_of p) ∙ e)) (short_output s h)
      go (writes s h p) = absurd (not_refused _ _ _ (sym (answer_of p) ∙ e))

  applied : (why : Refusal) → WriteApplies deck rounds out why → (write_call deck rounds out).answer ≡ refusal why
  applied why (in_file c) = answer_of (file_refused deck rounds out why ((refused_law missing_axis (file_text deck rounds) why).exactly_in_text.1 c))
  applied _ (short_output s h) = answer_of (short_ends s h)

  as_read : (why : Refusal) → why ≢ ShortOutput → (write_call deck rounds out).answer ≡ refusal why → read_text (file_text deck rounds) ≡ refused why
  as_read why apart e = go ends
    where
      go : Ends → read_text (file_text deck rounds) ≡ refused why
      go (refuses_file w r p) = r ∙ ap refused (same_refusal w why (sym (answer_of p) ∙ e))
      go (too_short s h p) = absurd (apart (sym (same_refusal ShortOutput why (sym (answer_of p) ∙ e))))
      go (writes s h p) = absurd (not_refused _ _ _ (sym (answer_of p) ∙ e))

  module _ (number line : ℕ) (e : (write_call deck rounds out).answer ≡ refuses number line) where
    listed : (why : Refusal) × (number ≡ number_of why) × (line ≡ line_of why)
    listed = go ends
      where
        go : Ends → (why : Refusal) × (number ≡ number_of why) × (line ≡ line_of why)
        go (refuses_file w r p) = let q = sym e ∙ answer_of p in (w, same_number _ _ _ _ q, same_line _ _ _ _ q)
        go (too_short s h p) = let q = sym e ∙ answer_of p in (ShortOutput, same_number _ _ _ _ q, same_line _ _ _ _ q)
        go (writes s h p) = absurd (not_refused _ _ _ (sym (answer_of p) ∙ e))

    few_lines : line ≤ posts_limit + stops_limit + 5
    few_lines = go ends
      where
        go : Ends → line ≤ posts_limit + stops_limit + 5
        go (refuses_file w r p) = let q = same_line _ _ _ _ (sym e ∙ answer_of p) in omega (arith, file_line deck rounds sized w r)
        go (too_short s h p) = let q = same_line _ _ _ _ (sym e ∙ answer_of p) in omega arith
        go (writes s h p) = absurd (not_refused _ _ _ (sym (answer_of p) ∙ e))

    unchanged : (write_call deck rounds out).out ≡ out
    unchanged = go ends
      where
        go : Ends → (write_call deck rounds out).out ≡ out
        go (refuses_file w r p) = ap (λ (r : Saved). r.out) p
        go (too_short s h p) = ap (λ (r : Saved). r.out) p
        go (writes s h p) = absurd (not_refused _ _ _ (sym (answer_of p) ∙ e))

  -- what reading the file answers, unless that is 1
  as_file : (number line : ℕ) → read_call (file_text deck rounds) ≡ refuses number line → number ≢ 1 →
      (write_call deck rounds out).answer ≡ refuses number line
  as_file number line e apart =
      let (why, g, n, l) = refused_one (file_text deck rounds) number line e in
      found why n l ((refused_job (file_text deck rounds) why).0 g)
    where
      found : (why : Refusal) → number ≡ number_of why → line ≡ line_of why → Condition (file_text deck rounds) why →
          (write_call deck rounds out).answer ≡ refuses number line
      found _ n l (too_long h) = absurd (apart n)
      found why n l (in_text short c) = applied why (in_file c) ∙ ap₂ refuses (sym n) (sym l)

  -- ---- what is written
  saveable : (n : ℕ) → (write_call deck rounds out).answer ≡ gives n → Saveable deck rounds × (length (saved_spelling (held_job deck rounds)) ≤ length out)
  saveable n e = go ends
    where
      go : Ends → Saveable deck rounds × (length (saved_spelling (held_job deck rounds)) ≤ length out)
      go (refuses_file w r p) = absurd (not_refused _ _ _ (sym e ∙ answer_of p))
      go (too_short s h p) = absurd (not_refused _ _ _ (sym e ∙ answer_of p))
      go (writes s h p) = (s, h)

  module _ (n : ℕ) (e : (write_call deck rounds out).answer ≡ gives n) where
    left : (write_call deck rounds out).out ≡ overwritten (saved_spelling (held_job deck rounds)) out
    left = let (s, h) = saveable n e in ap (λ (r : Saved). r.out) (written_ends s h)

    count_is : n ≡ length (saved_spelling (held_job deck rounds))
    count_is = let (s, h) = saveable n e in same_given _ _ (sym e ∙ answer_of (written_ends s h))

    pub front_is : take n (write_call deck rounds out).out ≡ saved_spelling (held_job deck rounds)
    front_is = ap₂ (λ (k : ℕ) (l : List ℕ). take k l) count_is left ∙ front_taken (saved_spelling (held_job deck rounds)) out

-- ---- the laws
-- a file by what it is made of
text_for : Query.Deck → ℕ → ℕ → ℕ → List ℕ
text_for d rounds p s = flat_map spell_line (lines_counting (writes_axis d.axis) p s (record { deck = d; rounds = rounds }))

same_file : (other deck : Deck) (rounds : ℕ) (out : List ℕ) → deck_of other ≡ deck_of deck → other.post_count ≡ deck.post_count →
    other.stop_count ≡ deck.stop_count →
    write_call other rounds out ≡ write_call deck rounds out
unfolding write_call file_text text_for
same_file other deck rounds out held p s =
    λ i. saved_as (read_text (text_for (held i) rounds (p i) (s i))) (text_for (held i) rounds (p i) (s i)) out

-- the deck of a record does not depend on near and before
figures_apart : (deck : Deck) (nears : List ℕ) (paid : ℕ) → deck_of (with_figures deck nears paid) ≡ deck_of deck
unfolding deck_of
figures_apart deck nears paid = refl

module _ (deck : Deck) (rounds : ℕ) (out : List ℕ) (sized : Sized deck) where
  written_law : (n : ℕ) → (write_call deck rounds out).answer ≡ gives n → WrittenLaw deck rounds out n
  written_law n e =
      let (s, room) = saveable deck rounds out sized n e in
      let front = front_is deck rounds out sized n e in
      let job = held_job deck rounds in
      let back = ap read_job front ∙ (read_exactly (saved_spelling job) job).1 (saved_spells job, s.allowed) in
      record {
        same_length = ap length (left deck rounds out sized n e) ∙ length_kept (saved_spelling (held_job deck rounds)) out room;
        later_kept = ap₂ (λ (k : ℕ) (l : List ℕ). drop k l) (count_is deck rounds out sized n e) (left deck rounds out sized n e)
            ∙ rest_kept (saved_spelling (held_job deck rounds)) out ∙ ap (λ (k : ℕ). drop k out) (sym (count_is deck rounds out sized n e));
        reads_back = back;
        reads_back_record = read_given _ _ back;
        longest = omega (arith, count_is deck rounds out sized n e, (spelling_law (held_job deck rounds)).longest s.allowed (writes_axis (deck_of deck).axis));
        one_job = λ other more lent m fit f same. (spelling_law (held_job deck rounds)).one_job missing_axis (saved_spelling (held_job deck rounds))
            (held_job other more) s.allowed (saveable other more lent fit m f).0.allowed (saved_spells (held_job deck rounds))
            (subst (λ (text : List ℕ). Spells missing_axis text (held_job other more)) (sym (sym front ∙ same ∙ front_is other more lent fit m f))
            (saved_spells (held_job other more)));
      }

  pub write_law : WriteLaw deck rounds out
  write_law = record {
    refused_exactly = λ why. (applies deck rounds out sized why, applied deck rounds out sized why);
    refused_as_read = λ why apart. (as_read deck rounds out sized why apart, λ r. answer_of deck rounds out sized (file_refused deck rounds out why r));
    refused_listed = listed deck rounds out sized;
    as_its_file = as_file deck rounds out sized;
    few_lines = few_lines deck rounds out sized;
    refused_out = unchanged deck rounds out sized;
    written_exactly = (
      λ w. saveable deck rounds out sized w.0 w.1,
      λ s. (length (saved_spelling (held_job deck rounds)), answer_of deck rounds out sized (written_ends deck rounds out sized s.0 s.1)),
    );
    file = same_text deck rounds out sized;
    given = written_ends deck rounds out sized;
    written = written_law;
    same_file = λ other. same_file other deck rounds out;
    other_figures = λ nears paid. same_file (with_figures deck nears paid) deck rounds out (figures_apart deck nears paid) refl refl;
  }

-- the record of an allowed job's deck, and the job that it holds
module _ (j : Job) (a : Allowed j) where
  record_held : held_job (deck_record j.deck) j.rounds ≡ j
  record_held = ap (λ (d : Query.Deck). record { deck = d; rounds = j.rounds }) (held_deck j.deck)

  sized : Sized (deck_record j.deck)
  sized = record_sized j.deck (allowed_in_range j a)

  record_saveable : Saveable (deck_record j.deck) j.rounds
  unfolding deck_record
  record_saveable = record { allowed = subst Allowed (sym record_held) a; few_posts = most_posts a.writable; few_stops = most_stops a.writable }

  pub record_written : (out : List ℕ) → length (saved_spelling j) ≤ length out →
      write_call (deck_record j.deck) j.rounds out ≡ record { answer = gives (length (saved_spelling j)); out = overwritten (saved_spelling j) out }
  record_written out h = subst (λ (k : Job). length (saved_spelling k) ≤ length out → write_call (deck_record j.deck) j.rounds out
      ≡ record { answer = gives (length (saved_spelling k)); out = overwritten (saved_spelling k) out }) record_held
      (written_ends (deck_record j.deck) j.rounds out sized record_saveable) h

module _ (job : List ℕ) where
  read_held : (held : Held.Job) → read_call job ≡ gives held → read_job job ≡ accepted (held_job held.deck held.rounds)
  read_held held e =
      let (j, g, same) = read_accepted job held e in
      g ∙ ap accepted (sym (ap (λ (h : Held.Job). held_job h.deck h.rounds) same ∙ record_held j ((read_exactly job j).0 g).1))

  read_sized : (held : Held.Job) → read_call job ≡ gives held → Sized held.deck
  read_sized held e =
      let (j, g, same) = read_accepted job held e in
      subst (λ (h : Held.Job). Sized h.deck) (sym same) (sized j ((read_exactly job j).0 g).1)

  -- an accepted job, saved as a text that is its saved spelling
  saved_as_lem : (j : Job) (out text : List ℕ) → read_job job ≡ accepted j → text ≡ saved_spelling j → length text ≤ length out →
      write_call (job_record j).deck j.rounds out ≡ record { answer = gives (length text); out = overwritten text out }
  saved_as_lem j out text e same h =
      record_written j ((read_exactly job j).0 e).1 out (subst (λ (l : List ℕ). length l ≤ length out) same h)
      ∙ ap (λ (l : List ℕ). record { answer = gives (length l); out = overwritten l out }) (sym same)

  -- what is saved of a job that does not spell out `axis=1,1`, and of one that does
  own : (j : Job) → Spells missing_axis job j → (SpellsOut job j → ⊥) → job ≡ saved_spelling j
  own j (without_line e c) apart = e ∙ ap (λ (b : Bool). spell b j) (sym (plain_unwritten j.deck.axis c))
  own j (with_line e) apart = e ∙ ap (λ (b : Bool). spell b j)
      (sym (other_written j.deck.axis (λ c. apart (record { spelled = e; costs = c }))))

  own_bytes : (j : Job) (out : List ℕ) → read_job job ≡ accepted j → (SpellsOut job j → ⊥) → length job ≤ length out →
      write_call (job_record j).deck j.rounds out ≡ record { answer = gives (length job); out = overwritten job out }
  own_bytes j out e apart = saved_as_lem j out job e (own j ((read_exactly job j).0 e).0 apart)

  line_left_out : (j : Job) (out : List ℕ) → read_job job ≡ accepted j → SpellsOut job j → length (spell false j) ≤ length out →
      write_call (job_record j).deck j.rounds out ≡ record { answer = gives (length (spell false j)); out = overwritten (spell false j) out }
  line_left_out j out e s = saved_as_lem j out (spell false j) e (ap (λ (b : Bool). spell b j) (sym (plain_unwritten j.deck.axis s.costs)))

  pub read_law : ReadLaw job
  read_law = record {
    refused_exactly = read_refuses job;
    refused_listed = λ number line f. let (why, e, n, l) = refused_one job number line f in (why, n, l);
    given_exactly = λ held. (
      read_accepted job held,
      λ w. let (j, e, same) = w in read_given job j e ∙ ap (λ (h : Held.Job). gives h) (sym same),
    );
    given = read_given job;
    held = read_held;
    sized = read_sized;
    own_bytes = own_bytes;
    line_left_out = line_left_out;
    nine_bytes = λ j s. ap length s.spelled ∙ line_length j s.costs;
  }
