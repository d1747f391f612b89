-- Which refusals each call can give: no others, and each of them in a small call, by computation.
use Prim.Native.Nat.{ℕ}
use mathlib.Core.Path.{◌≡◌, refl, sym, ap, subst, ◌∙◌}
use mathlib.Core.Logic.{⊎_elim}
use mathlib.Core.List.Memᴰ
use mathlib.Core.List.{List, [], ◌∷◌, ◌++◌, map, flat_map, Memᴰ}
use lib.Dec.{ltb, ltb→lt, nltb→le}
use lib.IntN.{ℤ, pos, neg_ℤ}
use lib.ListN.{length, replicate, set}
use Rattle.numbers.specs.Padded.{padded}
use Rattle.numbers.proofs.Truth.{test}
use Rattle.deck.specs.declared.Deck.{Deck}
use Rattle.refusal.specs.Refusal.{number_of, line_of}
use Rattle.refusal.specs.declared.Refusal.{Refusal}
use Rattle.refusal.specs.declared.Refusal.TheVariants.{TooLong, Malformed, OutOfRange, EmptyArea, NoPosts, NoStops}
use Rattle.job.specs.Format.{Job, Result, refused, accepted, missing_axis, read_text, read_job}
use Rattle.job.specs.Meaning.{TextCondition, malformed, out_of_range, empty_area_law, no_posts, no_stops, Condition, too_long, in_text}
use Rattle.job.specs.File.{file_text}
use Rattle.job.proofs.Meaning.{refused_law, refused_job}
use Rattle.report.specs.Text.{refusal_text}
use Rattle.change.specs.Change.{Change, add_post, remove_post, add_stop, remove_stop}
use Rattle.calls.specs.Answers.{refuses, for_accepted}
use Rattle.calls.specs.Call.{Left, report_call}
use Rattle.calls.specs.Entry.{Returned, entry}
use Rattle.calls.specs.Program.{answer_text}
use Rattle.calls.specs.CheapestCall.{exhaustive_call}
use Rattle.calls.specs.EstimateCall.{estimate_call}
use Rattle.calls.specs.ReadCall.{read_call}
use Rattle.calls.specs.WriteCall.{Saved, write_call}
use Rattle.calls.specs.ChangeCall.{change_call}
use Rattle.calls.specs.Promises.{Applies, in_reading, small_space, short_output}
use Rattle.calls.specs.CallRefusals.{text_refusals, own_refusals, Refuses, Exactly, CallRefusals}
use Rattle.calls.specs.RefusalTable.{case_a, ended, many_posts, many_stops}
use Rattle.calls.specs.WriteTable.{with_area, with_stop, counting, square, ten_digits}
use Rattle.calls.specs.ChangeTable.{place, stop}
use Rattle.calls.proofs.AnswerLaws.{same_number, not_refused}
use Rattle.calls.proofs.AcceptedCall as Call
use Rattle.calls.proofs.Promises.{refused_one, refused_call}
use Rattle.calls.proofs.EntryLaw.{entry_law, minus_which}
use Rattle.calls.proofs.ProgramLaw.{program_law, text_which}
use Rattle.calls.proofs.SavingLaw.{file_refused, file_short, file_written}
use Rattle.calls.proofs.ChangeLaw.{list_refusals, number_listed}

-- a fact of each number of a list, by numbers that have it
each : (P : ℕ → Type 0) (facts : List ((n : ℕ) × P n)) (number : ℕ) → Memᴰ number (map (λ f. f.0) facts) → P number
each P facts number m = let (f, i, e) = Memᴰ.of_map (λ f. f.0) facts m in subst P e f.1

-- ---- the job's own refusals
text_listed : {text : List ℕ} {why : Refusal} → TextCondition text why → Memᴰ (number_of why) text_refusals
text_listed (malformed f) = Memᴰ.head refl
text_listed (out_of_range f) = Memᴰ.tail (Memᴰ.head refl)
text_listed (empty_area_law s t) = Memᴰ.tail (Memᴰ.tail (Memᴰ.head refl))
text_listed (no_posts s t p) = Memᴰ.tail (Memᴰ.tail (Memᴰ.tail (Memᴰ.head refl)))
text_listed (no_stops s t p q) = Memᴰ.tail (Memᴰ.tail (Memᴰ.tail (Memᴰ.tail (Memᴰ.head refl))))

own_listed : {job : List ℕ} {why : Refusal} → Condition job why → Memᴰ (number_of why) own_refusals
own_listed (too_long h) = Memᴰ.head refl
own_listed (in_text short c) = Memᴰ.tail (text_listed c)

abbrev ReadRefuses : ℕ → Type 0
ReadRefuses number = (job : List ℕ) × (why : Refusal) × (read_job job ≡ refused why) × (number ≡ number_of why)

read_listed : {number : ℕ} → ReadRefuses number → Memᴰ number own_refusals
read_listed g = let (job, why, r, n) = g in subst (λ k. Memᴰ k own_refusals) (sym n) (own_listed ((refused_job job why).0 r))

read_each : (number : ℕ) → Memᴰ number own_refusals → ReadRefuses number
unfolding read_job flat_map
read_each = each ReadRefuses ((1, (replicate 16385 97, TooLong, refl, refl))
    ∷ (2, ([], Malformed 1, refl, refl))
    ∷ (3, (many_posts "posts=65" 65, OutOfRange 2, refl, refl))
    ∷ (4, (ended (set case_a 0 "area=8,2,2,8"), EmptyArea, refl, refl))
    ∷ (5, (many_posts "posts=0" 0, NoPosts, refl, refl))
    ∷ (6, (many_stops "stops=0" 0, NoStops, refl, refl)) ∷ [])

-- they are those of every call that gives something of an accepted job
own_exactly : {A : Type 0} (f : Job → A) → Exactly own_refusals (λ number. (job : List ℕ) × Refuses (for_accepted f (read_job job)) number)
own_exactly f number = (
  λ g. let (job, (line, e)) = g in let (why, r, n, l) = Call.refused_one f job number line e in read_listed (job, why, r, n),
  λ m. let (job, why, r, n) = read_each number m in (job, (line_of why, Call.for_refused f job why r ∙ ap (λ k. refuses k (line_of why)) (sym n))),
)

-- ---- the call `report`
applies_listed : {job : List ℕ} {cells : List ℤ} {out : List ℕ} {why : Refusal} → Applies job cells out why →
    Memᴰ (number_of why) (own_refusals ++ (7 ∷ 8 ∷ []))
applies_listed (in_reading c) = Memᴰ.append_left _ (own_listed c)
applies_listed (small_space j e h) = Memᴰ.append_right own_refusals (Memᴰ.head refl)
applies_listed (short_output j e h k) = Memᴰ.append_right own_refusals (Memᴰ.tail (Memᴰ.head refl))

abbrev ReportRefuses : ℕ → Type 0
ReportRefuses number = (job : List ℕ) × (cells : List ℤ) × (out : List ℕ) × Refuses (report_call job cells out).answer number

report_listed : (number : ℕ) → ReportRefuses number → Memᴰ number (own_refusals ++ (7 ∷ 8 ∷ []))
report_listed number g =
    let (job, cells, out, (line, e)) = g in
    let (why, c, f) = refused_one job cells out number line e in
    subst (λ k. Memᴰ k (own_refusals ++ (7 ∷ 8 ∷ []))) (sym (same_number number line _ _ (sym e ∙ ap (λ (l : Left). l.answer) f))) (applies_listed c)

report_lent : (number : ℕ) → Memᴰ number (7 ∷ 8 ∷ []) → ReportRefuses number
unfolding report_call
report_lent = each ReportRefuses ((7, (ended case_a, [], [], (0, refl)))
    ∷ (8, (ended case_a, replicate 20 (pos 0), [], (0, refl))) ∷ [])

report_own : (number : ℕ) → Memᴰ number own_refusals → ReportRefuses number
report_own number m =
    let (job, why, r, n) = read_each number m in
    (job, [], [], (line_of why, ap (λ (l : Left). l.answer) (refused_call job [] [] why r) ∙ ap (λ k. refuses k (line_of why)) (sym n)))

-- ---- the C entry
abbrev EntryRefuses : ℕ → Type 0
EntryRefuses number = (job : List ℕ) × (out : List ℕ) × ((entry job out).result ≡ neg_ℤ (pos number))

entry_listed : (number : ℕ) → EntryRefuses number → Memᴰ number (own_refusals ++ (8 ∷ []))
entry_listed number g = let (job, out, e) = g in ⊎_elim (λ own. Memᴰ.append_left _ (read_listed (job, own.0, own.1, own.2)))
    (λ n. Memᴰ.append_right own_refusals (Memᴰ.head n)) (minus_which job out number e)

entry_lent : (number : ℕ) → Memᴰ number (8 ∷ []) → EntryRefuses number
unfolding entry
entry_lent = each EntryRefuses ((8, (ended case_a, [], refl)) ∷ [])

entry_own : (number : ℕ) → Memᴰ number own_refusals → EntryRefuses number
entry_own number m =
    let (job, why, r, n) = read_each number m in
    (job, [], ap (λ (r : Returned). r.result) ((entry_law job []).refusal why ((refused_job job why).0 r)) ∙ ap (λ k. neg_ℤ (pos k)) (sym n))

-- ---- the program
program_exactly : Exactly own_refusals (λ number. (job : List ℕ) × (line : ℕ) × (answer_text job ≡ refusal_text number line))
program_exactly number = (
  λ g. let (job, line, e) = g in let (why, r, n) = text_which job number line e in read_listed (job, why, r, n),
  λ m. let (job, why, r, n) = read_each number m in
      (job, line_of why, (program_law job).refusal why ((refused_job job why).0 r) ∙ ap (λ k. refusal_text k (line_of why)) (sym n)),
)

-- ---- the call `write`
abbrev WriteRefuses : ℕ → Type 0
WriteRefuses number = (deck : Deck) × (rounds : ℕ) × (out : List ℕ) × Refuses (write_call deck rounds out).answer number

write_listed : (number : ℕ) → WriteRefuses number → Memᴰ number (text_refusals ++ (8 ∷ []))
write_listed number g = let (deck, rounds, out, (line, e)) = g in go deck rounds out line e (read_text (file_text deck rounds)) refl
  where
    go : (deck : Deck) (rounds : ℕ) (out : List ℕ) (line : ℕ) → (write_call deck rounds out).answer ≡ refuses number line →
        (r : Result) → read_text (file_text deck rounds) ≡ r → Memᴰ number (text_refusals ++ (8 ∷ []))
    go deck rounds out line e (refused why) f =
        let n = same_number number line _ _ (sym e ∙ ap (λ (s : Saved). s.answer) (file_refused deck rounds out why f)) in
        subst (λ k. Memᴰ k (text_refusals ++ (8 ∷ []))) (sym n)
        (Memᴰ.append_left _ (text_listed ((refused_law missing_axis (file_text deck rounds) why).exactly_in_text.0 f)))
    go deck rounds out line e (accepted job) f = ⊎_elim
        (λ t. let n = same_number number line _ _ (sym e ∙ ap (λ (s : Saved). s.answer) (file_short deck rounds out job f (ltb→lt _ _ t))) in
        Memᴰ.append_right text_refusals (Memᴰ.head n))
        (λ t. absurd (not_refused _ number line (sym (ap (λ (s : Saved). s.answer) (file_written deck rounds out job f (nltb→le _ _ t))) ∙ e)))
        (test (ltb (length out) (length (file_text deck rounds))))

write_each : (number : ℕ) → Memᴰ number (text_refusals ++ (8 ∷ [])) → WriteRefuses number
unfolding write_call padded
write_each = each WriteRefuses ((2, (with_stop (pos ten_digits, pos 12, 1), 0, [], (6, refl)))
    ∷ (3, (with_stop (pos 20001, pos 12, 1), 0, [], (6, refl)))
    ∷ (4, (with_area (pos 8 ∷ []), 0, [], (0, refl)))
    ∷ (5, (counting 0 (pos 0, pos 0) 1 (pos 4, pos 3, 2), 0, [], (0, refl)))
    ∷ (6, (counting 1 (pos 0, pos 0) 0 (pos 4, pos 3, 2), 0, [], (0, refl)))
    ∷ (8, (with_area square, 0, [], (0, refl))) ∷ [])

-- ---- changes, some of them of case A's record
abbrev held : Deck
held = with_area square

abbrev ChangeRefuses : {A : Type 0} → (A → Change) → ℕ → Type 0
ChangeRefuses {A} by number = (deck : Deck) × (item : A) × Refuses (change_call deck (by item)).answer number

change_listed : {A : Type 0} (by : A → Change) (number : ℕ) (g : ChangeRefuses by number) → Memᴰ number (3 ∷ list_refusals (by g.1))
change_listed by number g = number_listed g.0 (by g.1) number g.2.0 g.2.1

add_post_each : (number : ℕ) → Memᴰ number (3 ∷ 10 ∷ []) → ChangeRefuses add_post number
unfolding change_call padded
add_post_each = each (ChangeRefuses add_post) ((3, (held, place (pos 20001) (pos 0), (0, refl)))
    ∷ (10, (counting 64 (pos 0, pos 0) 1 (pos 4, pos 3, 2), place (pos 0) (pos 0), (0, refl))) ∷ [])

remove_post_each : (number : ℕ) → Memᴰ number (3 ∷ 5 ∷ 9 ∷ []) → ChangeRefuses remove_post number
unfolding change_call padded
remove_post_each = each (ChangeRefuses remove_post) ((3, (held, place (pos 20001) (pos 0), (0, refl)))
    ∷ (5, (held, place (pos 0) (pos 0), (0, refl)))
    ∷ (9, (held, place (pos 1) (pos 0), (0, refl))) ∷ [])

add_stop_each : (number : ℕ) → Memᴰ number (3 ∷ 10 ∷ []) → ChangeRefuses add_stop number
unfolding change_call padded
add_stop_each = each (ChangeRefuses add_stop) ((3, (held, stop (pos 4) (pos 3) 0, (0, refl)))
    ∷ (10, (counting 1 (pos 0, pos 0) 512 (pos 4, pos 3, 2), stop (pos 4) (pos 3) 2, (0, refl))) ∷ [])

remove_stop_each : (number : ℕ) → Memᴰ number (3 ∷ 6 ∷ 9 ∷ []) → ChangeRefuses remove_stop number
unfolding change_call padded
remove_stop_each = each (ChangeRefuses remove_stop) ((3, (held, stop (pos 4) (pos 3) 0, (0, refl)))
    ∷ (6, (counting 1 (pos 0, pos 0) 1 (pos 4, pos 3, 2), stop (pos 4) (pos 3) 2, (0, refl)))
    ∷ (9, (held, stop (pos 4) (pos 3) 1, (0, refl))) ∷ [])

-- ---- all of them
pub call_refusals : CallRefusals
unfolding exhaustive_call estimate_call read_call
call_refusals = record {
  report = λ number. (report_listed number, λ m. ⊎_elim (report_own number) (report_lent number) (Memᴰ.append_cases own_refusals m));
  entry = λ number. (entry_listed number, λ m. ⊎_elim (entry_own number) (entry_lent number) (Memᴰ.append_cases own_refusals m));
  program = program_exactly;
  exhaustive = own_exactly _;
  estimate = own_exactly _;
  read = own_exactly _;
  write = λ number. (write_listed number, write_each number);
  add_post = λ number. (change_listed add_post number, add_post_each number);
  remove_post = λ number. (change_listed remove_post number, remove_post_each number);
  add_stop = λ number. (change_listed add_stop number, add_stop_each number);
  remove_stop = λ number. (change_listed remove_stop number, remove_stop_each number);
}
