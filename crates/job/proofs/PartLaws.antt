-- The parts of a job: the axis line, which may be missing; lines that repeat, the record that they fill and the reading that is left; the
-- last line.
use mathlib.Core.Path.{◌≡◌, refl, sym, ap, ◌∙◌}
use mathlib.Core.Bool.{true, false, true≢false}
use mathlib.Core.List.{List, [], ◌∷◌, ◌++◌}
use Prim.Native.Nat.{ℕ, suc, ◌+◌, ◌-◌, ◌≤◌, ◌<◌, ◌^◌}
use native.Mathlib.Nat.{sub-zero}
use native.Mathlib.Omega.{arith}
use borrow.Author.Tests.{eq-eqb, eqb-true}
use lib.Dec.{eqb}
use lib.ListN.{length, set, length-append}
use lib.IntN.{ℤ, pos}
use Rattle.std.specs.Prelude.{Result, Ok, Err, IsErrAnd, IfOk}
use Rattle.numbers.proofs.Padded.{padded_none, padded_map}
use Rattle.query.specs.Range.{posts_limit, stops_limit}
use Rattle.text.specs.TextReading.{starts_with}
use Rattle.deck.specs.declared.AxisCosts.{AxisCosts}
use Rattle.deck.specs.declared.Deck.{Deck}
use Rattle.deck.specs.declared.Place.{Place}
use Rattle.deck.specs.declared.Stop.{Stop}
use Rattle.deck.specs.Values.{place_record, stop_record, no_place, no_stop}
use Rattle.job_line.specs.Kinds.{Kind, axis, rounds, row}
use Rattle.job_line.specs.OneLine.{Reading, fault, got, Reader, line}
use Rattle.job_line.specs.Reading.{cost_numbers, place_numbers, stop_numbers, reading_of, LineAt}
use Rattle.job_line.specs.declared.Unread.{Unread}
use Rattle.job_line.proofs.LineLaws.{line_at_is, line_counts}
use Rattle.job.specs.Reader.{and_then, repeated, end}
use Rattle.job.specs.Format.{count_of, post_of, stop_of}
use Rattle.job.specs.ManyLines.{AxisAt, many_lines, counted_lines, NoPostsYet, NoStopsYet, with_post_lines, with_posts, with_stop_lines, with_stops}
use Rattle.job.specs.ManyLines.{ListAt, last_line, LastAt}
use Rattle.refusal.specs.declared.Refusal.{Refusal}
use Rattle.refusal.specs.declared.Refusal.TheVariants.{Malformed}
use Rattle.job.proofs.ReaderLaws.{optional_is, Ranged, line_got}

-- what `?` hands on
pub handed : {A : Type 0} {why : Refusal} (r : Result A Refusal) → IsErrAnd r (λ e. e ≡ why) → r ≡ Err why
handed (Ok a) h = absurd h
handed (Err e) h = ap Err h

-- ---- the axis line
module _ {unread : Unread} {missing : AxisCosts} where
  pub axis_missing : starts_with (row axis).key unread.text.now ≡ false → AxisAt unread missing (Ok (missing, unread))
  axis_missing off = record { is = rw (optional_is, off); few = omega arith }

  pub axis_read : (r : Result (AxisCosts × Unread) Refusal) → starts_with (row axis).key unread.text.now ≡ true → unread.line ≤ 900 →
      LineAt (row axis) unread (reading_of cost_numbers r) → AxisAt unread missing r
  axis_read r on h axis_at = record { is = rw (optional_is, on) is; few = few r is }
    where
      is : reading_of cost_numbers r ≡ line (row axis) unread.line unread.text.now
      is = line_at_is axis_at (omega arith)

      few : (r : Result (AxisCosts × Unread) Refusal) → reading_of cost_numbers r ≡ line (row axis) unread.line unread.text.now →
          IfOk r (λ a. a.1.line ≤ unread.line + 1)
      few (Ok a) e = omega (arith, line_counts (row axis) unread.line unread.text.now e)
      few (Err why) e = tt

-- ---- lines that were read, and those left
repeated_none : {A : Type 0} (one : Reader A) (done : List A) (n : ℕ) (bs : List ℕ) → repeated 0 one done n bs ≡ got done n bs
unfolding repeated
repeated_none one done n bs = refl

repeated_more : {A : Type 0} (one : Reader A) (k : ℕ) (done : List A) (n : ℕ) (bs : List ℕ)
    → repeated (suc k) one done n bs ≡ and_then (one n bs) (λ a. repeated k one (done ++ (a ∷ [])))
unfolding repeated
repeated_more one k done n bs = refl

-- a way to put lines into a record
abbrev pub Put : Type 0
Put = Deck → List (List ℤ) → Deck

-- i lines were read and are put into a record, and this is left
pub record Filled (kind : Kind) (put : Put) (old now : Deck) (start : Unread) (count : ℕ) (left : Unread) (i : ℕ) : Type 0 where
  pub lines : List (List ℤ)
  pub count_is : i ≡ length lines
  pub deck_is : now ≡ put old lines
  pub line_is : left.line ≡ start.line + i
  pub left_is : many_lines kind count start.line start.text.now ≡ repeated (count - i) (line (row kind)) lines left.line left.text.now

module _ {kind : Kind} {put : Put} {old : Deck} {start : Unread} {count : ℕ} where
  pub filled_none : old ≡ put old [] → Filled kind put old old start count start 0
  filled_none e = record { lines = []; count_is = refl; deck_is = e; line_is = omega arith; left_is = rw sub-zero refl }

  module _ {now : Deck} {left : Unread} {i : ℕ} (f : Filled kind put old now start count left i) where
    all_read : count ≤ i → got f.lines left.line left.text.now ≡ many_lines kind count start.line start.text.now
    all_read h = sym (f.left_is ∙ rw none (repeated_none _ _ _ _))
      where
        none : count - i ≡ 0
        none = omega arith

    module _ (h : i < count) {r : Reading (List ℤ)} (line_is_lem : r ≡ line (row kind) left.line left.text.now) where
      next : many_lines kind count start.line start.text.now ≡ and_then r (λ ns. repeated (count - (i + 1)) (line (row kind)) (f.lines ++ (ns ∷ [])))
      next = f.left_is ∙ rw (more, line_is_lem) (repeated_more _ _ _ _ _)
        where
          more : count - i ≡ suc (count - (i + 1))
          more = omega arith

  pub filled_more : {now : Deck} {left : Unread} {i : ℕ} (f : Filled kind put old now start count left i) {ns : List ℤ} {to : Unread} → i < count →
      left.line + 1 < 2 ^ 64 → LineAt (row kind) left (got ns to.line to.text.now) → {then : Deck} → then ≡ put old (f.lines ++ (ns ∷ [])) →
      Filled kind put old then start count to (i + 1)
  filled_more {left = left} f {ns} h few line_at e = record {
    lines = f.lines ++ (ns ∷ []);
    count_is = rw (length-append, ← f.count_is);
    deck_is = e;
    line_is = omega (arith, f.line_is, line_counts (row kind) left.line left.text.now (line_at_is line_at few));
    left_is = next f h (line_at_is line_at few);
  }

-- ---- the record that holds them
pub posts_none : {deck : Deck} → NoPostsYet deck → deck ≡ with_post_lines deck []
posts_none {deck} none = λ i. record deck { posts = (none ∙ sym (padded_none posts_limit no_place)) i }

pub stops_none : {deck : Deck} → NoStopsYet deck → deck ≡ with_stop_lines deck []
stops_none {deck} none = λ i. record deck { stops = (none ∙ sym (padded_none stops_limit no_stop)) i }

module _ (old now : Deck) {i : ℕ} (lines : List (List ℤ)) (count_is : i ≡ length lines) where
  pub posts_more : (p : Place) → now ≡ with_post_lines old lines → i < posts_limit →
      record now { posts = set now.posts i p } ≡ with_post_lines old (lines ++ (place_numbers p ∷ []))
  posts_more p e h = ap (λ (d : Deck). record d { posts = set d.posts i p }) e
      ∙ (λ k. record old { posts = padded_map posts_limit no_place (λ l. place_record (post_of l)) lines (place_numbers p) count_is h refl k })

  pub stops_more : (s : Stop) → now ≡ with_stop_lines old lines → i < stops_limit →
      record now { stops = set now.stops i s } ≡ with_stop_lines old (lines ++ (stop_numbers s ∷ []))
  stops_more s e h = ap (λ (d : Deck). record d { stops = set d.stops i s }) e
      ∙ (λ k. record old { stops = padded_map stops_limit no_stop (λ l. stop_record (stop_of l)) lines (stop_numbers s) count_is h refl k })

-- all of them
module _ {count i : ℕ} (lines : List (List ℤ)) (count_is : i ≡ length lines) (low : count ≤ i) (high : i ≤ count) where
  all_counted : count ≡ length lines
  all_counted = omega (arith, count_is)

  pub posts_all : (old now : Deck) → now ≡ with_post_lines old lines → record now { post_count = count } ≡ with_posts old lines
  posts_all old now e = λ k. record (e k) { post_count = all_counted k }

  pub stops_all : (old now : Deck) → now ≡ with_stop_lines old lines → record now { stop_count = count } ≡ with_stops old lines
  stops_all old now e = λ k. record (e k) { stop_count = all_counted k }

-- ---- a line of a count, and what follows it
counted_is : (k kind : Kind) (n : ℕ) (bs : List ℕ) → and_then (line (row k) n bs) (λ c. many_lines kind (count_of c)) ≡ counted_lines k kind n bs
unfolding counted_lines
counted_is k kind n bs = refl

module _ (k kind : Kind) {unread : Unread} (low : unread.line ≤ 900) where
  counted_at : {r : Reading (List ℤ)} → LineAt (row k) unread r →
      and_then r (λ c. many_lines kind (count_of c)) ≡ counted_lines k kind unread.line unread.text.now
  counted_at count_at = ap (λ r. and_then r (λ c. many_lines kind (count_of c))) (line_at_is count_at (omega arith))
      ∙ counted_is k kind unread.line unread.text.now

  list_fault : {put : Put} {most : ℕ} {old new : Deck} {why : Refusal} → fault why ≡ counted_lines k kind unread.line unread.text.now →
      ListAt (counted_lines k kind) put most unread old new (Err why)
  list_fault e = record { lines = []; is = e; few = tt; counted = tt; held = tt }

  pub list_no_count : {put : Put} {most : ℕ} {old new : Deck} {why : Refusal} → LineAt (row k) unread (fault why) →
      ListAt (counted_lines k kind) put most unread old new (Err why)
  list_no_count count_at = list_fault (counted_at count_at)

  -- a count that was read is in its range
  pub counted_in : {count m : ℕ} {rest : List ℕ} → LineAt (row k) unread (got (pos count ∷ []) m rest) → Ranged k (pos count ∷ [])
  counted_in {count} {m} {rest} count_at =
      (line_got k unread.line unread.text.now (pos count ∷ []) m rest (sym (line_at_is count_at (omega arith)))).1

  module _ {count : ℕ} (start : Unread) (count_at : LineAt (row k) unread (got (pos count ∷ []) start.line start.text.now)) where
    start_is : start.line ≡ unread.line + 1
    start_is = line_counts (row k) unread.line unread.text.now (line_at_is count_at (omega arith))

    module _ {fill : Put} {first now : Deck} {left : Unread} {i : ℕ} (f : Filled kind fill first now start count left i) where
      -- the number of a line fits 64 bits
      pub line_small : i ≤ stops_limit → left.line + 1 < 2 ^ 64
      line_small h = omega (arith, f.line_is, start_is)

      pub list_read : {put : Put} {most : ℕ} {old new : Deck} → count ≤ i → i ≤ count → count ≤ most → new ≡ put old f.lines → ListAt
          (counted_lines k kind) put most unread old new (Ok left)
      list_read g h few e = record {
        lines = f.lines;
        is = all_read f g ∙ counted_at count_at;
        few = omega (arith, f.count_is);
        counted = omega (arith, f.line_is, start_is);
        held = e;
      }

      pub list_refused : {put : Put} {most : ℕ} {old new : Deck} {why : Refusal} → i < count → i ≤ stops_limit → LineAt (row kind) left (fault why) →
          ListAt (counted_lines k kind) put most unread old new (Err why)
      list_refused h few line_at = list_fault (sym (next f h (line_at_is line_at (line_small few))) ∙ counted_at count_at)

-- ---- the last line
-- the end of the text behind a number
ended : List ℤ → Reader (List ℤ)
ended z n bs = and_then (end n bs) (λ u n bs. got z n bs)

last_is : (n : ℕ) (bs : List ℕ) → and_then (line (row rounds) n bs) ended ≡ last_line n bs
unfolding last_line ended
last_is n bs = refl

ended_more : (z : List ℤ) (n : ℕ) (bs : List ℕ) → (length bs ≡ 0 → ⊥) → fault (Malformed n) ≡ ended z n bs
unfolding ended end
ended_more z n [] h = absurd (h refl)
ended_more z n (b ∷ bs) h = refl

ended_here : (z : List ℤ) (n : ℕ) (bs : List ℕ) → length bs ≡ 0 → got z n [] ≡ ended z n bs
unfolding ended end
ended_here z n [] h = refl
ended_here z n (b ∷ bs) h = absurd (omega arith)

module _ {unread : Unread} (low : unread.line ≤ 900) where
  last_line_is : {r : Reading (List ℤ)} → LineAt (row rounds) unread r → and_then r ended ≡ last_line unread.line unread.text.now
  last_line_is count_at = ap (λ r. and_then r ended) (line_at_is count_at (omega arith)) ∙ last_is unread.line unread.text.now

  pub last_refused : {why : Refusal} → LineAt (row rounds) unread (fault why) → LastAt unread (Err why)
  last_refused count_at = record { is = last_line_is count_at }

  module _ {count : ℕ} (left : Unread) (count_at : LineAt (row rounds) unread (got (pos count ∷ []) left.line left.text.now)) where
    pub last_more : eqb (length left.text.now) 0 ≡ false → LastAt unread (Err (Malformed left.line))
    last_more h = record {
      is = ended_more (pos count ∷ []) left.line left.text.now (λ z. true≢false (sym (eq-eqb _ _ z) ∙ h)) ∙ last_line_is count_at;
    }

    pub last_alone : eqb (length left.text.now) 0 ≡ true → LastAt unread (Ok count)
    last_alone h = record {
      is = ap (λ m. got (pos count ∷ []) m []) (sym (line_counts (row rounds) unread.line unread.text.now (line_at_is count_at (omega arith))))
          ∙ ended_here (pos count ∷ []) left.line left.text.now (eqb-true _ _ h) ∙ last_line_is count_at;
    }
