-- What reading a record's file finds: the refusal of the first of its lines that has one, and then refusals 4, 5 and 6.
use mathlib.Core.Path.{◌≡◌, refl, sym, ap, ap₂, subst, ◌∙◌}
use mathlib.Core.Bool.{Bool, true, false, not, cond, ◌&&◌}
use mathlib.Core.Logic.{◌⊎◌, inl, inr, ⊎_elim}
use mathlib.Core.List.Memᴰ
use mathlib.Core.List.{List, [], ◌∷◌, ◌++◌, map, flat_map, Memᴰ}
use mathlib.Core.Option.{Option, none, some, none-ne-some, some-injective}
use Prim.Native.Nat.{ℕ, zero, suc, ◌+◌, ◌≤◌, ◌<◌}
use native.Mathlib.Omega.{arith}
use lib.Dec.{T, ltb, eqb, ltb→lt, nltb→le, eqb-suc-zero}
use lib.IntN.{ℤ, nat_abs}
use lib.ListN.{length, replicate, length-append, length-map}
use Rattle.std.specs.Prelude.{Ok, Err}
use Rattle.numbers.proofs.Truth.{test, holds, fails}
use Rattle.numbers.proofs.Members.{each_cons}
use Rattle.numbers.specs.Lists.{non_empty}
use Rattle.query.specs.Place.{Place, Rect}
use Rattle.query.specs.Deck.{AxisCosts, Stop}
use Rattle.query.specs.Range.{posts_limit, stops_limit}
use Rattle.text.specs.Ascii.{bytes}
use Rattle.text.specs.TextReading.{starts_with}
use Rattle.deck.specs.DeckOf.{Sized, deck_of}
use Rattle.deck.specs.declared.Deck.{Deck}
use Rattle.deck.proofs.DeckLaws.{posts_counted, stops_counted}
use Rattle.job_line.specs.Kinds.{Kind, area, posts, post, stops, stop, rounds, row, in_ranges}
use Rattle.job.specs.Format.{Job, Result, refused, accepted, empty_area, checked, missing_axis, read_text}
use Rattle.job.specs.Spelling.{JobLine, area_line, axis_line, count_line, post_line, stop_line, later_lines, lines_counting, lines_of, spell_line, spell}
use Rattle.job.specs.Spelling.{Writable}
use Rattle.job.specs.Spelling.{Allowed}
use Rattle.job.specs.Meaning.{due_after}
use Rattle.job.specs.File.{held_job, writes_axis, saved_spelling, file_lines, file_text}
use Rattle.job.proofs.FormLaws.{SomeLong, Fitting, Within, form_spells, form_long}
use Rattle.job.proofs.RangeLaws.{count_range}
use Rattle.job.proofs.Faults.{Faults, bad_form, bad_value, further, all_due}
use Rattle.job.proofs.Meaning.{text_fault, text_checked, text_accepted, missing_ranged}
use Rattle.refusal.specs.Refusal.{line_of}
use Rattle.refusal.specs.declared.Refusal.{Refusal}
use Rattle.refusal.specs.declared.Refusal.TheVariants.{Malformed, OutOfRange, EmptyArea, NoPosts, NoStops}
use Rattle.job_check.specs.LineFaults.{all_short, numbers_fault, line_fault, or_else, first_fault, parts_fault, refusal_in, checked_as}
use Rattle.job_check.proofs.AxisLaws.{left_out, axis_lines, axis_end, third_line}

-- ---- one line
short_or_long : (ns : List ℤ) → (T (all_short ns) × Within ns) ⊎ (T (not (all_short ns)) × SomeLong ns)
unfolding all_short
short_or_long [] = inl (tt, tt)
short_or_long (n ∷ ns) = go (ltb (nat_abs n) 1000000000) (all_short ns) (λ t. ltb→lt _ _ t) (λ t. nltb→le _ _ t) (short_or_long ns)
  where
    go : (b c : Bool) → (T b → nat_abs n < 1000000000) → (T (not b) → 1000000000 ≤ nat_abs n) → (T c × Within ns) ⊎ (T (not c) × SomeLong ns)
        → (T (b && c) × Within (n ∷ ns)) ⊎ (T (not (b && c)) × SomeLong (n ∷ ns))
    go false c lt le r = inr (tt, inl (omega (arith, le tt)))
    go true c lt le (inl r) = inl (r.0, (omega (arith, lt tt), r.1))
    go true c lt le (inr r) = inr (r.0, inr (omega (arith, lt tt), r.1))

-- what a line's numbers come to
data LineIs (n : ℕ) (l : JobLine) : Type 0 where
  long : line_fault n l ≡ some (Malformed n) → SomeLong l.numbers → LineIs n l
  beyond : line_fault n l ≡ some (OutOfRange n) → Within l.numbers → T (not (in_ranges (row l.kind).ranges l.numbers)) → LineIs n l
  fine : line_fault n l ≡ none → Within l.numbers → T (in_ranges (row l.kind).ranges l.numbers) → LineIs n l

line_is : (n : ℕ) (l : JobLine) → LineIs n l
unfolding numbers_fault
line_is n l = ⊎_elim
    (λ s. ⊎_elim (λ t. fine (rw (holds (all_short l.numbers) s.0, holds (in_ranges (row l.kind).ranges l.numbers) t)) s.1 t)
    (λ t. beyond (rw (holds (all_short l.numbers) s.0, fails (in_ranges (row l.kind).ranges l.numbers) t)) s.1 t)
    (test (in_ranges (row l.kind).ranges l.numbers)))
    (λ s. long (rw (fails (all_short l.numbers) s.0)) s.1) (short_or_long l.numbers)

-- ---- lines of the kinds that are due
Follows : List Kind → List JobLine → Type 0
Follows due [] = due ≡ []
Follows [] (l ∷ ls) = ⊥
Follows (k ∷ due) (l ∷ ls) = (k ≡ l.kind) × (length l.numbers ≡ length (row l.kind).ranges)
    × (T (in_ranges (row l.kind).ranges l.numbers) → Follows (due_after l.kind l.numbers (flat_map spell_line ls) ++ due) ls)

none_some : {C : Type 0} {why : Refusal} → ◌≡◌ {A = Option Refusal} none (some why) → C
none_some {why = why} e = absurd (none-ne-some why e)

some_same : {a b : Refusal} → ◌≡◌ {A = Option Refusal} (some a) (some b) → a ≡ b
some_same {a} {b} e = some-injective a b e

-- a line and the text behind it, by what its numbers come to
module _ (due : List Kind) (n : ℕ) (l : JobLine) (ls : List JobLine) (why : Refusal) (as_many : length l.numbers ≡ length (row l.kind).ranges) where
  fits : Within l.numbers → Fitting (row l.kind).ranges l.numbers
  fits w = record { as_many = as_many; small = w }

  line_fault_lem : LineIs n l → (T (in_ranges (row l.kind).ranges l.numbers) → first_fault (n + 1) ls ≡ some why →
      Faults (due_after l.kind l.numbers (flat_map spell_line ls) ++ due) (n + 1) (flat_map spell_line ls) why) → first_fault n (l ∷ ls) ≡ some why →
      Faults (l.kind ∷ due) n (flat_map spell_line (l ∷ ls)) why
  unfolding first_fault flat_map spell_line
  line_fault_lem (long p s) later e = subst (Faults (l.kind ∷ due) n (spell_line l ++ flat_map spell_line ls))
      (some_same (sym (ap (λ (o : Option Refusal). or_else o (first_fault (n + 1) ls)) p) ∙ e)) (bad_form (form_long (row l.kind) l.numbers _ as_many s))
  line_fault_lem (beyond p w t) later e = subst (Faults (l.kind ∷ due) n (spell_line l ++ flat_map spell_line ls))
      (some_same (sym (ap (λ (o : Option Refusal). or_else o (first_fault (n + 1) ls)) p) ∙ e))
      (bad_value l.numbers (flat_map spell_line ls) ((form_spells (row l.kind)).writes l.numbers _ (fits w)) t)
  line_fault_lem (fine p w t) later e = further l.numbers (flat_map spell_line ls) ((form_spells (row l.kind)).writes l.numbers _ (fits w)) t
      (later t (sym (ap (λ (o : Option Refusal). or_else o (first_fault (n + 1) ls)) p) ∙ e))

lines_fault : (due : List Kind) (ls : List JobLine) (n : ℕ) (why : Refusal) → Follows due ls → first_fault n ls ≡ some why
    → Faults due n (flat_map spell_line ls) why
unfolding Follows first_fault
lines_fault due [] n why f e = none_some e
lines_fault [] (l ∷ ls) n why f e = absurd f
lines_fault (k ∷ due) (l ∷ ls) n why f e = subst (λ (k : Kind). Faults (k ∷ due) n (flat_map spell_line (l ∷ ls)) why) (sym f.0)
    (line_fault_lem due n l ls why f.1 (line_is n l) (λ t. lines_fault (due_after l.kind l.numbers (flat_map spell_line ls) ++ due) ls (n + 1) why (f.2 t))
    e)

-- the line of a fault is one of them
fault_line : (n : ℕ) (ls : List JobLine) (why : Refusal) → first_fault n ls ≡ some why → line_of why < n + length ls
unfolding first_fault
fault_line n [] why e = none_some e
fault_line n (l ∷ ls) why e = go (line_is n l) (fault_line (n + 1) ls why)
  where
    or_else_lem : {o : Option Refusal} → line_fault n l ≡ o → or_else o (first_fault (n + 1) ls) ≡ some why
    or_else_lem p = sym (ap (λ (o : Option Refusal). or_else o (first_fault (n + 1) ls)) p) ∙ e

    go : LineIs n l → (first_fault (n + 1) ls ≡ some why → line_of why < n + 1 + length ls) → line_of why < n + length (l ∷ ls)
    go (long p s) later = omega (arith, ap line_of (some_same (or_else_lem p)))
    go (beyond p w t) later = omega (arith, ap line_of (some_same (or_else_lem p)))
    go (fine p w t) later = omega (arith, later (or_else_lem p))

-- lines without a fault
InRanges : JobLine → Type 0
InRanges l = T (in_ranges (row l.kind).ranges l.numbers)

lines_fine : (ls : List JobLine) (n : ℕ) → first_fault n ls ≡ none → (l : JobLine) → Memᴰ l ls → InRanges l
unfolding first_fault InRanges
lines_fine [] n e = λ l i. absurd (Memᴰ.not-nil i)
lines_fine (l ∷ ls) n e = each_cons InRanges (go (line_is n l)) (lines_fine ls (n + 1) (rest (line_is n l)))
  where
    or_else_some : (why : Refusal) → line_fault n l ≡ some why → {C : Type 0} → C
    or_else_some why p = none_some (sym e ∙ ap (λ (o : Option Refusal). or_else o (first_fault (n + 1) ls)) p)

    go : LineIs n l → T (in_ranges (row l.kind).ranges l.numbers)
    go (long p s) = or_else_some (Malformed n) p
    go (beyond p w t) = or_else_some (OutOfRange n) p
    go (fine p w t) = t

    rest : LineIs n l → first_fault (n + 1) ls ≡ none
    rest (long p s) = or_else_some (Malformed n) p
    rest (beyond p w t) = or_else_some (OutOfRange n) p
    rest (fine p w t) = sym (ap (λ (o : Option Refusal). or_else o (first_fault (n + 1) ls)) p) ∙ e

-- so many lines of a kind that makes no others due
many_follow : {A : Type 0} (k : Kind) (numbers_of : A → List ℤ) → ((a : A) → length (numbers_of a) ≡ length (row k).ranges)
    → ((ns : List ℤ) (rest : List ℕ) → due_after k ns rest ≡ []) → (xs : List A) (count : ℕ) → length xs ≡ count → (due : List Kind) (ls : List JobLine)
    → Follows due ls → Follows (replicate count k ++ due) (map (λ a. record { kind = k; numbers = numbers_of a }) xs ++ ls)
unfolding Follows
many_follow k numbers_of as_many alone [] zero e due ls f = f
many_follow k numbers_of as_many alone [] (suc count) e due ls f = absurd (omega arith)
many_follow k numbers_of as_many alone (x ∷ xs) zero e due ls f = absurd (omega arith)
many_follow k numbers_of as_many alone (x ∷ xs) (suc count) e due ls f = (
  refl,
  as_many x,
  λ t. rw (alone (numbers_of x) _) (many_follow k numbers_of as_many alone xs count (omega arith) due ls f),
)

-- the lines behind that of the area: the axis line is due where the text goes on with its key, and `posts=` does not
axis_follows : (carried : Bool) (c : AxisCosts) (ns : List ℤ) (n : ℕ) (ls : List JobLine) (due : List Kind) →
    Follows (posts ∷ due) (count_line posts n ∷ ls) →
    Follows (due_after area ns (flat_map spell_line (cond carried (axis_line c ∷ []) [] ++ (count_line posts n ∷ ls))) ++ (posts ∷ due))
    (cond carried (axis_line c ∷ []) [] ++ (count_line posts n ∷ ls))
unfolding Follows flat_map spell_line starts_with bytes
axis_follows true c ns n ls due f = (refl, refl, λ t. f)
axis_follows false c ns n ls due f = f

-- refusals 4 to 6 have no line
parts_line : (r : Rect) (p s : ℕ) (why : Refusal) → parts_fault r p s ≡ some why → line_of why ≡ 0
unfolding parts_fault
parts_line r p s why = go (empty_area r) (eqb p 0) (eqb s 0)
  where
    go : (b c d : Bool) → checked_as (cond b (Err EmptyArea) (cond c (Err NoPosts) (cond d (Err NoStops) (Ok tt)))) ≡ some why → line_of why ≡ 0
    go true c d f = ap line_of (sym (some_same f))
    go false true d f = ap line_of (sym (some_same f))
    go false false true f = ap line_of (sym (some_same f))
    go false false false f = none_some f

-- a job that passes refusals 4 to 6 is the one that was looked at
checked_same : (held job : Job) → checked held ≡ accepted job → job ≡ held
unfolding checked
checked_same held job = go (empty_area held.deck.area) (non_empty held.deck.posts) (non_empty held.deck.stops)
  where
    not_accepted : {why : Refusal} → ◌≡◌ {A = Result} (refused why) (accepted job) → job ≡ held
    not_accepted e = absurd (let z : ◌≡◌ {A = ℕ} 0 1 = cc in omega arith)

    go : (b p s : Bool) → cond b (refused EmptyArea) (cond p (cond s (accepted held) (refused NoStops)) (refused NoPosts)) ≡ accepted job → job ≡ held
    go true p s e = not_accepted e
    go false false s e = not_accepted e
    go false true false e = not_accepted e
    go false true true e = cc

-- ---- the file of a record
module _ (deck : Deck) (rounds-held : ℕ) (sized : Sized deck) where
  posts_held : deck.post_count ≤ posts_limit → length (deck_of deck).posts ≡ deck.post_count
  posts_held h = omega (arith, posts_counted deck sized)

  stops_held : deck.stop_count ≤ stops_limit → length (deck_of deck).stops ≡ deck.stop_count
  stops_held h = omega (arith, stops_counted deck sized)

  file_follows : Follows all_due (file_lines deck rounds-held)
  unfolding Follows
  file_follows = (
    refl,
    refl,
    λ t. axis_follows (writes_axis (deck_of deck).axis) (deck_of deck).axis (area_line (deck_of deck).area).numbers deck.post_count _ _ (
      refl,
      refl,
      λ p. many_follow post (λ p. (post_line p).numbers) (λ a. refl) (λ ns rest. refl) (deck_of deck).posts deck.post_count
          (posts_held ((count_range posts_limit deck.post_count).0 p)) (stops ∷ rounds ∷ []) _ (
            refl,
            refl,
            λ q. many_follow stop (λ s. (stop_line s).numbers) (λ a. refl)
                (λ ns rest. refl) (deck_of deck).stops deck.stop_count (stops_held ((count_range stops_limit deck.stop_count).0 q))
                (rounds ∷ []) _ (refl, refl, λ r. refl),
          ),
    ),
  )

  lines_held : deck.post_count ≤ posts_limit → deck.stop_count ≤ stops_limit →
      file_lines deck rounds-held ≡ lines_of (writes_axis (deck_of deck).axis) (held_job deck rounds-held)
  lines_held p s = ap₂ (λ (p s : ℕ). lines_counting (writes_axis (deck_of deck).axis) p s (held_job deck rounds-held)) (sym (posts_held p)) (sym (stops_held s))

  -- where the counts are those of the lists, the file is the spelling of the job that is held
  pub file_spelled : deck.post_count ≤ posts_limit → deck.stop_count ≤ stops_limit → file_text deck rounds-held ≡ saved_spelling (held_job deck rounds-held)
  unfolding file_text spell
  file_spelled p s = ap (flat_map spell_line) (lines_held p s)

  -- as it is where no line has a fault
  record AllFine : Type 0 where
    posts_few : deck.post_count ≤ posts_limit
    stops_few : deck.stop_count ≤ stops_limit
    writable : Writable (writes_axis (deck_of deck).axis) (held_job deck rounds-held)
    spelled : file_text deck rounds-held ≡ saved_spelling (held_job deck rounds-held)

  all_fine : first_fault 1 (file_lines deck rounds-held) ≡ none → AllFine
  unfolding InRanges
  all_fine e =
      let each = lines_fine (file_lines deck rounds-held) 1 e in
      let later : (l : JobLine) → Memᴰ l (later_lines deck.post_count deck.stop_count (held_job deck rounds-held)) → InRanges l
      = λ l i. each l (Memᴰ.tail (Memᴰ.append_right (axis_lines (deck_of deck).axis) i)) in
      let p : deck.post_count ≤ posts_limit = (count_range posts_limit deck.post_count).0 (later _ (Memᴰ.head refl)) in
      let s : deck.stop_count ≤ stops_limit = (count_range stops_limit deck.stop_count).0
      (later _ (Memᴰ.tail (Memᴰ.append_right (map post_line (deck_of deck).posts) (Memᴰ.head refl)))) in
      record {
        posts_few = p;
        stops_few = s;
        writable = record { in_ranges_law = subst (λ (ls : List JobLine). (l : JobLine) → Memᴰ l ls → InRanges l) (lines_held p s) each };
        spelled = file_spelled p s;
      }

  parts_is : AllFine → refusal_in (checked (held_job deck rounds-held)) ≡ parts_fault (deck_of deck).area deck.post_count deck.stop_count
  unfolding checked parts_fault
  parts_is f = go (empty_area (deck_of deck).area) (deck_of deck).posts (deck_of deck).stops
      ∙ ap₂ (parts_fault (deck_of deck).area) (posts_held f.posts_few) (stops_held f.stops_few)
    where
      go : (b : Bool) (ps : List Place) (ss : List Stop) → refusal_in (cond b (refused EmptyArea) (cond (non_empty ps)
          (cond (non_empty ss) (accepted (held_job deck rounds-held)) (refused NoStops)) (refused NoPosts)))
          ≡ checked_as (cond b (Err EmptyArea) (cond (eqb (length ps) 0) (Err NoPosts) (cond (eqb (length ss) 0) (Err NoStops) (Ok tt))))
      go true ps ss = refl
      go false [] ss = refl
      go false (p ∷ ps) [] = rw (eqb-suc-zero (length ps))
      go false (p ∷ ps) (s ∷ ss) = rw (eqb-suc-zero (length ps), eqb-suc-zero (length ss))

  all_read : AllFine → read_text (file_text deck rounds-held) ≡ checked (held_job deck rounds-held)
  all_read f = text_checked missing_axis _ (held_job deck rounds-held) f.spelled f.writable (left_out (deck_of deck).axis)

  -- what reading the file gives
  pub file_fault : refusal_in (read_text (file_text deck rounds-held))
      ≡ or_else (first_fault 1 (file_lines deck rounds-held)) (parts_fault (deck_of deck).area deck.post_count deck.stop_count)
  unfolding file_text
  file_fault = go (first_fault 1 (file_lines deck rounds-held)) refl
    where
      go : (o : Option Refusal) → first_fault 1 (file_lines deck rounds-held) ≡ o →
          refusal_in (read_text (file_text deck rounds-held)) ≡ or_else o (parts_fault (deck_of deck).area deck.post_count deck.stop_count)
      go (some why) e = ap refusal_in (text_fault missing_axis _ why (lines_fault all_due (file_lines deck rounds-held) 1 why file_follows e))
      go none e = let f = all_fine e in ap refusal_in (all_read f) ∙ parts_is f

  -- at a line of the file, of which there are at most 581
  lines_few : length (file_lines deck rounds-held) ≤ 581
  lines_few =
      let axis = axis_end (deck_of deck).axis in
      simp (length-append, length-map) (omega (arith, axis, third_line (writes_axis (deck_of deck).axis), posts_counted deck sized, stops_counted deck sized))

  pub file_line : (why : Refusal) → read_text (file_text deck rounds-held) ≡ refused why → line_of why ≤ 581
  file_line why e = go (first_fault 1 (file_lines deck rounds-held)) refl (sym file_fault ∙ ap refusal_in e)
    where
      go : (o : Option Refusal) → first_fault 1 (file_lines deck rounds-held) ≡ o →
          or_else o (parts_fault (deck_of deck).area deck.post_count deck.stop_count) ≡ some why → line_of why ≤ 581
      go (some found) p f = omega (arith, fault_line 1 (file_lines deck rounds-held) why (p ∙ f), lines_few)
      go none p f = omega (arith, parts_line (deck_of deck).area deck.post_count deck.stop_count why f)

  -- and where it finds no fault: the job that is held, whose file has the record's own counts
  pub record FileIs : Type 0 where
    pub few_posts : deck.post_count ≤ posts_limit
    pub few_stops : deck.stop_count ≤ stops_limit
    pub text : file_text deck rounds-held ≡ saved_spelling (held_job deck rounds-held)
    pub allowed : Allowed (held_job deck rounds-held)
    pub read : read_text (file_text deck rounds-held) ≡ accepted (held_job deck rounds-held)

  pub file_is : refusal_in (read_text (file_text deck rounds-held)) ≡ none → FileIs
  unfolding file_text
  file_is e = go (first_fault 1 (file_lines deck rounds-held)) refl
    where
      held : (r : Result) → read_text (file_text deck rounds-held) ≡ r → AllFine → FileIs
      held (refused why) p f = none_some (sym e ∙ ap refusal_in p)
      held (accepted job) p f =
          let (spelt, allowed) = text_accepted missing_axis _ job missing_ranged p in
          let same : job ≡ held_job deck rounds-held = checked_same (held_job deck rounds-held) job (sym (all_read f) ∙ p) in
          record { few_posts = f.posts_few; few_stops = f.stops_few; text = f.spelled; allowed = subst Allowed same allowed; read = p ∙ ap accepted same }

      go : (o : Option Refusal) → first_fault 1 (file_lines deck rounds-held) ≡ o → FileIs
      go (some why) p =
          none_some (sym e ∙ file_fault ∙ ap (λ (o : Option Refusal). or_else o (parts_fault (deck_of deck).area deck.post_count deck.stop_count)) p)
      go none p = held (read_text (file_text deck rounds-held)) refl (all_fine p)
