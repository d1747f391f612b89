-- From the parts to the job: refusals 4, 5 and 6, and the whole reading.
use mathlib.Core.Path.{◌≡◌, refl, sym, ap, ◌∙◌}
use mathlib.Core.Bool.{Bool, true, false, cond, not}
use mathlib.Core.List.{List, [], ◌∷◌, map, map-map}
use Prim.Native.Nat.{ℕ, zero, suc, ◌≤◌, ◌<◌}
use native.Mathlib.Omega.{arith}
use borrow.Author.Tests.{lt-ltb, eq-eqb, ne_eqb}
use lib.Dec.{eqb, eqb-suc-zero}
use lib.IntN.{ℤ, pos}
use lib.ListN.{length, take, replicate, length-map}
use lib.Signed.{lt_z}
use mir.Syntax.{w64}
use mir.Val.{SFits}
use Rattle.std.specs.Prelude as Std
use Rattle.std.specs.Prelude.{Ok, Err, IfOk}
use Rattle.numbers.specs.Lists.{non_empty}
use Rattle.numbers.specs.Padded.{padded}
use Rattle.job_line.specs.Kinds.{area, axis, posts, stops, rounds, row}
use Rattle.job_line.specs.OneLine.{Reading, fault, got, Reader, line}
use Rattle.job_line.specs.Reading.{area_numbers, cost_numbers, reading_of, LineAt}
use Rattle.job_line.specs.declared.Unread.{Unread}
use Rattle.job_line.proofs.LineLaws.{line_at_is, line_counts}
use Rattle.job.specs.Reader.{and_then, optional, end}
use Rattle.job.specs.Format as Format
use Rattle.job.specs.Format.{refused, accepted, area_of, axis_numbers, count_of, post_of, stop_of, job_of, empty_area, check_parts, checked}
use Rattle.job.specs.Format.{job_lines, size_limit, read_with, missing_axis, read_job}
use Rattle.job.specs.JobRecord.{job_result}
use Rattle.job.specs.ManyLines.{post_lines, stop_lines, counted_lines, all_posts, all_stops, last_line, rest_lines, with_posts, with_stops}
use Rattle.job.specs.ManyLines.{lines_read, last_read, job_unless, AxisAt, PostsAt, StopsAt, LastAt, CheckedAt, RestAt}
use Rattle.query.specs.Deck as Query
use Rattle.query.specs.Place as Place
use Rattle.query.specs.Range.{posts_limit, stops_limit}
use Rattle.deck.specs.Values as Values
use Rattle.deck.specs.Values.{held_axis, rect_of, place_of, place_record, stop_record, no_place, no_stop}
use Rattle.deck.specs.DeckOf.{deck_of, deck_record, with_figures}
use Rattle.deck.specs.Ranges.{PostsInRange, StopsInRange, NearsInRange}
use Rattle.deck.specs.declared.AxisCosts.{AxisCosts}
use Rattle.deck.specs.declared.Deck.{Deck}
use Rattle.deck.specs.declared.Rect.{Rect}
use Rattle.deck.proofs.DeckLaws.{held_deck, nears_front}
use Rattle.columns.specs.StopFigures.{Nears, paid}
use Rattle.job.specs.declared.Job.{Job}
use Rattle.refusal.specs.declared.Refusal.{Refusal}
use Rattle.refusal.specs.declared.Refusal.TheVariants.{TooLong, EmptyArea, NoPosts, NoStops}
use Rattle.numbers.proofs.WordTests.{back, back_is}
use Rattle.job.proofs.Meaning.{read_short, job_with}
use Rattle.job.proofs.FilledLaws.{posts_in, stops_in, near_is, before_is}

-- ---- refusal 4
module _ {a : Rect} (xlo : SFits w64 a.xlo) (ylo : SFits w64 a.ylo) (xhi : SFits w64 a.xhi) (yhi : SFits w64 a.yhi) where
  pub empty_across : lt_z (back a.xhi) (back a.xlo) ≡ true → lt_z (back a.xhi) (back a.xlo) ≡ empty_area (area_of (area_numbers a))
  unfolding empty_area
  empty_across e = e ∙ rw (rw (back_is xhi, back_is xlo) at e)

  pub empty_deep : lt_z (back a.xhi) (back a.xlo) ≡ false → lt_z (back a.yhi) (back a.ylo) ≡ empty_area (area_of (area_numbers a))
  unfolding empty_area
  empty_deep e = rw (rw (back_is xhi, back_is xlo) at e, back_is yhi, back_is ylo)

-- ---- refusals 4, 5 and 6, in this order
module _ (r : Place.Rect) (k m : ℕ) {t : Bool} (is_empty : t ≡ empty_area r) where
  pub parts_empty : t ≡ true → Err EmptyArea ≡ check_parts r k m
  unfolding check_parts
  parts_empty on = rw (← is_empty, on)

  module _ (off : t ≡ false) where
    pub parts_no_posts : k ≡ 0 → Err NoPosts ≡ check_parts r k m
    unfolding check_parts
    parts_no_posts z = rw (← is_empty, off, eq-eqb k 0 z)

    module _ (some_posts : k ≡ 0 → ⊥) where
      pub parts_no_stops : m ≡ 0 → Err NoStops ≡ check_parts r k m
      unfolding check_parts
      parts_no_stops z = rw (← is_empty, off, ne_eqb k 0 some_posts, eq-eqb m 0 z)

      pub parts_there : (m ≡ 0 → ⊥) → Ok tt ≡ check_parts r k m
      unfolding check_parts
      parts_there some_stops = rw (← is_empty, off, ne_eqb k 0 some_posts, ne_eqb m 0 some_stops)

-- lines are some, or none, by their count
lines_some : {A : Type 0} (f : List ℤ → A) {count : ℕ} (ls : List (List ℤ)) → count ≡ length ls → non_empty (map f ls) ≡ not (eqb count 0)
lines_some f [] e = rw e refl
lines_some f (l ∷ ls) e = rw (e, eqb-suc-zero (length ls)) refl

pub checked_parts : {r : Rect} {k m : ℕ} {found : Std.Result (Unit {0}) Refusal} → found ≡ check_parts (area_of (area_numbers r)) k m → CheckedAt r k m found
unfolding checked check_parts
checked_parts {r} {k} {m} e = rw e (record {
  is = λ c ps ss n p s. rw (lines_some post_of ps p, lines_some stop_of ss s)
      (go (job_of (area_numbers r) c ps ss n) (empty_area (area_of (area_numbers r))) (eqb k 0) (eqb m 0));
  posts_some = some k;
})
  where
    go : (job : Format.Job) (s t u : Bool) → cond s (refused EmptyArea) (cond (not t) (cond (not u) (accepted job) (refused NoStops)) (refused NoPosts))
        ≡ job_unless job (cond s (Err EmptyArea) (cond t (Err NoPosts) (cond u (Err NoStops) (Ok tt))))
    go job true t u = refl
    go job false true u = refl
    go job false false true = refl
    go job false false false = refl

    any : (k : ℕ) (found : Std.Result (Unit {0}) Refusal) → IfOk found (λ u. 1 ≤ suc k)
    any k (Ok u) = omega arith
    any k (Err why) = tt

    some : (k : ℕ) → IfOk (check_parts (area_of (area_numbers r)) k m) (λ u. 1 ≤ k)
    some zero = no_posts (empty_area (area_of (area_numbers r)))
      where
        no_posts : (s : Bool) → IfOk (cond s (Err EmptyArea) (Err NoPosts)) (λ (u : Unit {0}). 1 ≤ 0)
        no_posts true = tt
        no_posts false = tt
    some (suc k) = any k _

-- ---- the lines of a job, part by part
-- one reading after another
then_assoc : {A B C : Type 0} (r : Reading A) (f : A → Reader B) (g : B → Reader C) → and_then r (λ a n bs. and_then (f a n bs) g) ≡ and_then (and_then r f) g
then_assoc (fault why) f g = refl
then_assoc (got a n bs) f g = refl

then_same : {A B : Type 0} (r : Reading A) (f g : A → Reader B) → ((a : A) (n : ℕ) (bs : List ℕ) → f a n bs ≡ g a n bs) → and_then r f ≡ and_then r g
then_same (fault why) f g e = refl
then_same (got a n bs) f g e = e a n bs

module _ (a c : List ℤ) where
  -- what follows the stops and the posts, in parts
  after_stops : List (List ℤ) → List (List ℤ) → Reader Format.Job
  after_stops ps ss n bs = and_then (last_line n bs) (λ k n bs. got (job_of a c ps ss k) n bs)

  after_posts : List (List ℤ) → Reader Format.Job
  after_posts ps n bs = and_then (all_stops n bs) (after_stops ps)

  rest_is : (n : ℕ) (bs : List ℕ) → rest_lines a c n bs ≡ and_then (all_posts n bs) after_posts
  unfolding rest_lines after_posts after_stops
  rest_is n bs = refl

  -- the same and what follows the axis costs, line by line
  behind_stops_lem : List (List ℤ) → List (List ℤ) → Reader Format.Job
  behind_stops_lem ps ss n bs = and_then (line (row rounds) n bs) (λ k n bs. and_then (end n bs) (λ u n bs. got (job_of a c ps ss k) n bs))

  behind_posts_lem : List (List ℤ) → Reader Format.Job
  behind_posts_lem ps n bs = and_then (line (row stops) n bs) (λ k n bs. and_then (stop_lines (count_of k) n bs) (behind_stops_lem ps))

  behind_axis_lem : Reader Format.Job
  behind_axis_lem n bs = and_then (line (row posts) n bs) (λ k n bs. and_then (post_lines (count_of k) n bs) behind_posts_lem)

  stops_same : (ps ss : List (List ℤ)) (n : ℕ) (bs : List ℕ) → behind_stops_lem ps ss n bs ≡ after_stops ps ss n bs
  unfolding behind_stops_lem after_stops last_line
  stops_same ps ss n bs = go (line (row rounds) n bs)
    where
      last : (k : List ℤ) (r : Reading (Unit {0})) → and_then r (λ u n bs. got (job_of a c ps ss k) n bs) ≡ and_then (and_then r (λ u n bs. got k n bs))
          (λ k n bs. got (job_of a c ps ss k) n bs)
      last k (fault why) = refl
      last k (got u n bs) = refl

      go : (r : Reading (List ℤ)) → and_then r (λ k n bs. and_then (end n bs) (λ u n bs. got (job_of a c ps ss k) n bs)) ≡ and_then
          (and_then r (λ k n bs. and_then (end n bs) (λ u n bs. got k n bs))) (λ k n bs. got (job_of a c ps ss k) n bs)
      go (fault why) = refl
      go (got k n bs) = last k (end n bs)

  posts_same : (ps : List (List ℤ)) (n : ℕ) (bs : List ℕ) → behind_posts_lem ps n bs ≡ after_posts ps n bs
  unfolding behind_posts_lem after_posts counted_lines
  posts_same ps n bs = then_assoc (line (row stops) n bs) (λ k. stop_lines (count_of k)) (behind_stops_lem ps)
      ∙ then_same (all_stops n bs) (behind_stops_lem ps) (after_stops ps) (stops_same ps)

  axis_same : (n : ℕ) (bs : List ℕ) → behind_axis_lem n bs ≡ rest_lines a c n bs
  unfolding behind_axis_lem counted_lines
  axis_same n bs = then_assoc (line (row posts) n bs) (λ k. post_lines (count_of k)) behind_posts_lem
      ∙ then_same (all_posts n bs) behind_posts_lem after_posts posts_same ∙ sym (rest_is n bs)

lines_are : (missing : Query.AxisCosts) (n : ℕ) (bs : List ℕ) →
    job_lines missing n bs ≡ and_then (line (row area) n bs) (λ a n bs. and_then (optional (row axis) (axis_numbers missing) n bs) (rest_lines a))
unfolding job_lines behind_axis_lem behind_posts_lem behind_stops_lem
lines_are missing n bs = then_same (line (row area) n bs) _ _
    (λ a n bs. then_same (optional (row axis) (axis_numbers missing) n bs) (behind_axis_lem a) (rest_lines a) (axis_same a))

-- ---- the lines behind those of the area and the axis costs
-- the record that has none of them
abbrev start_deck : Rect → AxisCosts → Deck
start_deck a c = record {
  area = a;
  axis = c;
  post_count = 0;
  posts = replicate posts_limit no_place;
  stop_count = 0;
  stops = replicate stops_limit no_stop;
  near = replicate stops_limit 0;
  before = 0;
}

-- the deck of the lines that were read
abbrev read_as_deck : Rect → AxisCosts → List (List ℤ) → List (List ℤ) → Query.Deck
read_as_deck a c ps ss = record { axis = held_axis c; area = rect_of a; posts = map post_of ps; stops = map stop_of ss }

module _ (a : Rect) (c : AxisCosts) (ps ss : List (List ℤ)) where
  -- the record that holds them is that of the deck, but for near and before
  lines_held : with_stops (with_posts (start_deck a c) ps) ss ≡ with_figures (deck_record (read_as_deck a c ps ss)) (replicate stops_limit 0) 0
  unfolding deck_record
  lines_held = λ i. record {
    area = a;
    axis = c;
    post_count = sym (length-map ps post_of) i;
    posts = padded posts_limit no_place (sym (map-map place_record post_of ps) i);
    stop_count = sym (length-map ss stop_of) i;
    stops = padded stops_limit no_stop (sym (map-map stop_record stop_of ss) i);
    near = replicate stops_limit 0;
    before = 0;
  }

  held_is : deck_of (with_stops (with_posts (start_deck a c) ps) ss) ≡ read_as_deck a c ps ss
  unfolding deck_of
  held_is = ap deck_of lines_held ∙ held_deck (read_as_deck a c ps ss)

  accepted_is : (n : ℕ) → job_result (accepted (job_of (area_numbers a) (cost_numbers c) ps ss (pos n ∷ [])))
      ≡ Ok (record { rounds = n; deck = deck_record (read_as_deck a c ps ss) })
  unfolding job_result
  accepted_is n = refl

-- the record that holds those that were read
module _ {unread : Unread} {a : Rect} {c : AxisCosts} {d₁ : Deck} {left : Unread} (posts_at : PostsAt unread (start_deck a c) d₁ (Ok left)) where
  module _ {d₂ : Deck} {last : Unread} (stops_at : StopsAt left d₁ d₂ (Ok last)) where
    abbrev deck : Query.Deck
    deck = read_as_deck a c posts_at.lines stops_at.lines

    filled : d₂ ≡ with_stops (with_posts (start_deck a c) posts_at.lines) stops_at.lines
    filled = stops_at.held ∙ ap (λ d. with_stops d stops_at.lines) posts_at.held

    posts_count : d₂.post_count ≡ length posts_at.lines
    posts_count = ap (λ (d : Deck). d.post_count) filled

    stops_count : d₂.stop_count ≡ length stops_at.lines
    stops_count = ap (λ (d : Deck). d.stop_count) filled

    filled_deck : deck_of d₂ ≡ deck
    filled_deck = ap deck_of filled ∙ held_is a c posts_at.lines stops_at.lines

    posts_are : map place_of (take d₂.post_count d₂.posts) ≡ deck.posts
    unfolding deck_of
    posts_are = ap (λ (d : Query.Deck). d.posts) filled_deck

    stops_are : map Values.stop_of (take d₂.stop_count d₂.stops) ≡ deck.stops
    unfolding deck_of
    stops_are = ap (λ (d : Query.Deck). d.stops) filled_deck

    pub filled_posts : PostsInRange (take d₂.post_count d₂.posts)
    filled_posts = posts_in posts_at posts_are

    pub filled_stops : StopsInRange (take d₂.stop_count d₂.stops)
    filled_stops = stops_in stops_at stops_are

    pub filled_some : 1 ≤ d₂.post_count → 1 ≤ length (take d₂.post_count d₂.posts)
    filled_some h = omega (arith, h, posts_count, length-map (take d₂.post_count d₂.posts) place_of, ap length posts_are, length-map posts_at.lines post_of)

    checked_is : {r : Std.Result (Unit {0}) Refusal} (k : ℕ) → CheckedAt a d₂.post_count d₂.stop_count r →
        checked (job_of (area_numbers a) (cost_numbers c) posts_at.lines stops_at.lines (pos k ∷ []))
        ≡ job_unless (job_of (area_numbers a) (cost_numbers c) posts_at.lines stops_at.lines (pos k ∷ [])) r
    checked_is k checked_at = checked_at.is (cost_numbers c) posts_at.lines stops_at.lines (pos k ∷ []) posts_count stops_count

    -- with near and before, found of them
    module _ {near : List ℕ} (found : Nears (held_axis c) (map place_of (take d₂.post_count d₂.posts))
        (map Values.stop_of (take d₂.stop_count d₂.stops)) near) where
      found_deck : Nears deck.axis deck.posts deck.stops near
      found_deck = rw (← posts_are, ← stops_are) found

      count_is : d₂.stop_count ≡ length deck.stops
      count_is = stops_count ∙ sym (length-map stops_at.lines stop_of)

      stops_listed : length (take d₂.stop_count d₂.stops) ≡ length deck.stops
      stops_listed = sym (length-map (take d₂.stop_count d₂.stops) Values.stop_of) ∙ ap length stops_are

      pub nears_held : NearsInRange (take d₂.stop_count near) (length (take d₂.stop_count d₂.stops))
      nears_held = rw (stops_listed, count_is) (nears_front (omega arith) found_deck.range)

      deck_made : {sum : ℕ} → sum ≡ paid (map Values.stop_of (take d₂.stop_count d₂.stops)) (take d₂.stop_count near) →
          with_figures d₂ near sum ≡ deck_record deck
      unfolding deck_record
      deck_made {sum} e = ap (λ (d : Deck). with_figures d near sum) (filled ∙ lines_held a c posts_at.lines stops_at.lines)
          ∙ (λ i. with_figures (deck_record deck) (near_is deck found_deck i) (before_is deck found_deck {sum = sum} (rw (← count_is, ← stops_are) e) i))

-- the job as the code makes it of the record
abbrev as_read : Job → Std.Result Job Refusal
as_read job = Ok job

-- the reading that they come to
record RestIs (unread : Unread) (a : Rect) (c : AxisCosts) (reading : Reading Format.Job) : Type 0 where
  is : rest_lines (area_numbers a) (cost_numbers c) unread.line unread.text.now ≡ reading

module _ {unread : Unread} {a : Rect} {c : AxisCosts} where
  rest_refused : {why : Refusal} → RestIs unread a c (fault why) → RestAt unread a c (Err why)
  unfolding job_result
  rest_refused r = record { is = rw r.is refl }

  rest_made : {job : Format.Job} {m : ℕ} {bs : List ℕ} {r : Std.Result Job Refusal} → RestIs unread a c (got job m bs) → r ≡ job_result (checked job) →
      RestAt unread a c r
  rest_made f e = record { is = rw f.is e }

  from_posts : {d₀ d₁ : Deck} {r : Std.Result Unread Refusal} (posts_at : PostsAt unread d₀ d₁ r) →
      RestIs unread a c (and_then (lines_read posts_at.lines r) (after_posts (area_numbers a) (cost_numbers c)))
  from_posts posts_at = record { is = rw (rest_is (area_numbers a) (cost_numbers c) unread.line unread.text.now, posts_at.is) }

  pub rest_no_posts : {d₀ d₁ : Deck} {why : Refusal} → PostsAt unread d₀ d₁ (Err why) → RestAt unread a c (Err why)
  rest_no_posts posts_at = rest_refused (from_posts posts_at)

  module _ {d₀ d₁ : Deck} {left : Unread} (posts_at : PostsAt unread d₀ d₁ (Ok left)) where
    from_stops : {d₂ : Deck} {r : Std.Result Unread Refusal} (stops_at : StopsAt left d₁ d₂ r) →
        RestIs unread a c (and_then (lines_read stops_at.lines r) (after_stops (area_numbers a) (cost_numbers c) posts_at.lines))
    unfolding after_posts
    from_stops stops_at = record { is = (from_posts posts_at).is ∙ rw stops_at.is }

    pub rest_no_stops : {d₂ : Deck} {why : Refusal} → StopsAt left d₁ d₂ (Err why) → RestAt unread a c (Err why)
    rest_no_stops stops_at = rest_refused (from_stops stops_at)

    module _ {d₂ : Deck} {last : Unread} (stops_at : StopsAt left d₁ d₂ (Ok last)) where
      from_last : {r : Std.Result ℕ Refusal} → LastAt last r →
          RestIs unread a c (and_then (last_read last.line r) (λ k n bs. got (job_of (area_numbers a) (cost_numbers c) posts_at.lines stops_at.lines k) n bs))
      unfolding after_stops
      from_last last_at = record { is = (from_stops stops_at).is ∙ rw last_at.is }

      pub rest_no_rounds : {why : Refusal} → LastAt last (Err why) → RestAt unread a c (Err why)
      rest_no_rounds last_at = rest_refused (from_last last_at)

  -- every line was read
  module _ {d₁ d₂ : Deck} {left last : Unread} (posts_at : PostsAt unread (start_deck a c) d₁ (Ok left)) (stops_at : StopsAt left d₁ d₂ (Ok last))
      {n : ℕ} (last_at : LastAt last (Ok n)) where
    pub rest_unchecked : {why : Refusal} → CheckedAt a d₂.post_count d₂.stop_count (Err why) → RestAt unread a c (Err why)
    unfolding job_result
    rest_unchecked checked_at = rest_made (from_last posts_at stops_at last_at) (ap job_result (sym (checked_is posts_at stops_at n checked_at)))

    pub rest_read : CheckedAt a d₂.post_count d₂.stop_count (Ok tt) → {near : List ℕ} {sum : ℕ} →
        Nears (held_axis c) (map place_of (take d₂.post_count d₂.posts)) (map Values.stop_of (take d₂.stop_count d₂.stops)) near →
        sum ≡ paid (map Values.stop_of (take d₂.stop_count d₂.stops)) (take d₂.stop_count near) →
        RestAt unread a c (Ok (record { rounds = n; deck = with_figures d₂ near sum }))
    rest_read checked_at found summed = rest_made (from_last posts_at stops_at last_at)
        (ap (λ (d : Deck). as_read (record { rounds = n; deck = d })) (deck_made posts_at stops_at found summed)
        ∙ sym (accepted_is a c posts_at.lines stops_at.lines n) ∙ ap job_result (sym (checked_is posts_at stops_at n checked_at)))

-- ---- the whole reading
pub read_long : (missing : Query.AxisCosts) (s : List ℕ) → size_limit < length s → Err TooLong ≡ job_result (read_with missing s)
unfolding read_with job_result
read_long missing s h = rw (lt-ltb size_limit (length s) h)

module _ (missing : AxisCosts) {whole : Unread} (first : whole.line ≡ 1) (short : length whole.text.now ≤ size_limit) where
  from_area : {r : Reading (List ℤ)} → LineAt (row area) whole r → job_lines (held_axis missing) 1 whole.text.now ≡ and_then r
      (λ a n bs. and_then (optional (row axis) (cost_numbers missing) n bs) (rest_lines a))
  from_area area_at = rw (lines_are (held_axis missing) 1 whole.text.now, line_at_is area_at (omega arith), first)

  pub read_no_area : {why : Refusal} → LineAt (row area) whole (fault why) → Err why ≡ job_result (read_with (held_axis missing) whole.text.now)
  unfolding job_result
  read_no_area area_at = rw (read_short (held_axis missing) whole.text.now short, from_area area_at)

  module _ {a : Rect} (unread : Unread) (area_at : LineAt (row area) whole (got (area_numbers a) unread.line unread.text.now)) where
    -- the line behind the area's is the second
    pub second : unread.line ≡ 2
    second = omega (arith, line_counts (row area) whole.line whole.text.now (line_at_is area_at (omega arith)))

    from_axis : {r : Std.Result (AxisCosts × Unread) Refusal} → AxisAt unread missing r →
        job_lines (held_axis missing) 1 whole.text.now ≡ and_then (reading_of cost_numbers r) (rest_lines (area_numbers a))
    from_axis axis_at = rw (from_area area_at, axis_at.is)

    pub read_no_axis : {why : Refusal} → AxisAt unread missing (Err why) → Err why ≡ job_result (read_with (held_axis missing) whole.text.now)
    unfolding job_result
    read_no_axis axis_at = rw (read_short (held_axis missing) whole.text.now short, from_axis axis_at)

    pub read_rest : {costs : AxisCosts} {left : Unread} → AxisAt unread missing (Ok (costs, left)) → {r : Std.Result Job Refusal} →
        RestAt left a costs r → r ≡ job_result (read_with (held_axis missing) whole.text.now)
    read_rest axis_at rest_at = rw (read_short (held_axis missing) whole.text.now short, from_axis axis_at) rest_at.is

-- where a missing line means what it does for every call
pub read_missing : (s : List ℕ) {r : Std.Result Job Refusal} → r ≡ job_result (read_with missing_axis s) → r ≡ job_result (read_job s)
read_missing s e = rw (job_with s) e
