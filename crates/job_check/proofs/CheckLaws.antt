-- The refusal of a file by its parts: the lines of the area and of the axis costs, those of the posts, those of the stops, that of the
-- rounds, and what they hold.
use mathlib.Core.Path.{◌≡◌, refl, sym, ap, ap₂, subst, ◌∙◌}
use mathlib.Core.Bool.{cond}
use mathlib.Core.List.{List, [], ◌∷◌, ◌++◌, map}
use mathlib.Core.Option.{Option, none, some}
use Prim.Native.Nat.{ℕ, ◌+◌, ◌≤◌}
use native.Mathlib.Omega.{arith}
use lib.IntN.{ℤ, pos}
use lib.ListN.{length, length-map}
use Rattle.std.specs.Prelude as Std
use Rattle.query.specs.Range.{posts_limit, stops_limit}
use Rattle.deck.specs.declared.Deck.{Deck}
use Rattle.deck.specs.DeckOf.{Sized, deck_of}
use Rattle.deck.specs.Values.{held_axis, rect_of}
use Rattle.deck.proofs.DeckLaws.{posts_counted, stops_counted}
use Rattle.job_line.specs.Kinds.{Range, area, axis, posts, stops, rounds, up_to, row}
use Rattle.job_line.specs.Reading.{area_numbers, cost_numbers}
use Rattle.job.specs.Format.{area_of, check_parts, read_text}
use Rattle.job.specs.Spelling.{JobLine, area_line, count_line, post_line, stop_line}
use Rattle.job.specs.File.{writes_axis, file_text, file_lines}
use Rattle.refusal.specs.declared.Refusal.{Refusal}
use Rattle.job_check.specs.LineFaults.{numbers_fault, line_fault, or_else, first_fault, parts_fault, refusal_in, checked_as}
use Rattle.job_check.proofs.AxisLaws.{axis_lines, axis_fault, axis_end}
use Rattle.job_check.proofs.ShortLaws.{count_most}
use Rattle.job_check.proofs.FirstFault.{fault_none, fault_more, fault_joined, or_both, or_none}

-- ---- the parts of a record's lines
abbrev pub post_part : Deck → List JobLine
post_part deck = count_line posts deck.post_count ∷ map post_line (deck_of deck).posts

abbrev pub stop_part : Deck → List JobLine
stop_part deck = count_line stops deck.stop_count ∷ map stop_line (deck_of deck).stops

-- the number of the first line of the posts
abbrev pub posts_at : Deck → ℕ
posts_at deck = cond (writes_axis (held_axis deck.axis)) 3 2

lines_are : (deck : Deck) (n : ℕ) →
    file_lines deck n ≡ area_line (rect_of deck.area)
    ∷ (axis_lines (held_axis deck.axis) ++ (post_part deck ++ (stop_part deck ++ (count_line rounds n ∷ []))))
unfolding deck_of
lines_are deck n = refl

-- ---- the counts of parts without a fault
or_left : (a b : Option Refusal) → or_else a b ≡ none → a ≡ none
or_left none b e = refl
or_left (some why) b e = e

counted : (most n line : ℕ) (l : JobLine) (ls : List JobLine) → l.numbers ≡ pos n ∷ [] → (row l.kind).ranges ≡ up_to most ∷ [] →
    first_fault line (l ∷ ls) ≡ none → n ≤ most
counted most n line l ls g h e =
    count_most most n line (ap₂ (λ (ranges : List Range) (ns : List ℤ). numbers_fault ranges line ns) h g)
    (or_left (line_fault line l) (first_fault (line + 1) ls) (sym (fault_more line l ls) ∙ e))

pub posts_most : (deck : Deck) (line : ℕ) {p : Option Refusal} → p ≡ first_fault line (post_part deck) → p ≡ none → deck.post_count ≤ posts_limit
posts_most deck line is-p fine =
    counted posts_limit deck.post_count line (count_line posts deck.post_count) (map post_line (deck_of deck).posts) refl refl
    (sym is-p ∙ fine)

pub stops_most : (deck : Deck) (line : ℕ) {s : Option Refusal} → s ≡ first_fault line (stop_part deck) → s ≡ none → deck.stop_count ≤ stops_limit
stops_most deck line is-s fine =
    counted stops_limit deck.stop_count line (count_line stops deck.stop_count) (map stop_line (deck_of deck).stops) refl refl
    (sym is-s ∙ fine)

-- ---- what is left of a file's refusal, once parts of it have no fault
module _ (deck : Deck) (n : ℕ) where
  -- behind the stops, behind the posts and behind the axis costs, where the next line has this number, and behind the area
  abbrev pub behind_stops : ℕ → Option Refusal
  behind_stops line = or_else (numbers_fault (row rounds).ranges line (pos n ∷ [])) (parts_fault (deck_of deck).area deck.post_count deck.stop_count)

  abbrev pub behind_posts : ℕ → Option Refusal
  behind_posts line = or_else (first_fault line (stop_part deck)) (behind_stops (line + length (stop_part deck)))

  abbrev pub behind_axis : ℕ → Option Refusal
  behind_axis line = or_else (first_fault line (post_part deck)) (behind_posts (line + length (post_part deck)))

  abbrev pub behind_area : Option Refusal
  behind_area = or_else (numbers_fault (row axis).ranges 2 (cost_numbers deck.axis)) (behind_axis (posts_at deck))

  later_fault : (first : ℕ) → or_else (first_fault first (post_part deck ++ (stop_part deck ++ (count_line rounds n ∷ []))))
      (parts_fault (deck_of deck).area deck.post_count deck.stop_count) ≡ behind_axis first
  later_fault first = rw (
    fault_joined first (post_part deck) (stop_part deck ++ (count_line rounds n ∷ [])),
    fault_joined (first + length (post_part deck)) (stop_part deck) (count_line rounds n ∷ []),
    fault_more (first + length (post_part deck) + length (stop_part deck)) (count_line rounds n) [],
    fault_none (first + length (post_part deck) + length (stop_part deck) + 1),
    or_none (numbers_fault (row rounds).ranges (first + length (post_part deck) + length (stop_part deck)) (pos n ∷ [])),
    or_both,
    or_both,
  )

  lines_fault : or_else (first_fault 1 (file_lines deck n)) (parts_fault (deck_of deck).area deck.post_count deck.stop_count)
      ≡ or_else (numbers_fault (row area).ranges 1 (area_numbers deck.area)) behind_area
  lines_fault = rw (
    lines_are deck n,
    fault_more 1 (area_line (rect_of deck.area))
        (axis_lines (held_axis deck.axis) ++ (post_part deck ++ (stop_part deck ++ (count_line rounds n ∷ [])))),
    fault_joined 2 (axis_lines (held_axis deck.axis)) (post_part deck ++ (stop_part deck ++ (count_line rounds n ∷ []))),
    axis_fault (held_axis deck.axis),
    axis_end (held_axis deck.axis),
    or_both,
    or_both,
    later_fault (posts_at deck),
  )

-- this is left of it
pub record Left (deck : Deck) (n : ℕ) (rest : Option Refusal) : Type 0 where
  pub is : refusal_in (read_text (file_text deck n)) ≡ rest

-- a part, whose fault the code found
module _ {deck : Deck} {n : ℕ} {part found : Option Refusal} (rest : Option Refusal) (left : Left deck n (or_else part rest)) (e : found ≡ part) where
  pub part_fine : found ≡ none → Left deck n rest
  part_fine fine = record { is = left.is ∙ rw (← e, fine) }

  pub part_refused : {why : Refusal} → found ≡ some why → some why ≡ refusal_in (read_text (file_text deck n))
  part_refused refused = sym (left.is ∙ rw (← e, refused))

-- of all of a file, found by its lines
pub all_left : {deck : Deck} (n : ℕ) →
    refusal_in (read_text (file_text deck n)) ≡ or_else (first_fault 1 (file_lines deck n)) (parts_fault (deck_of deck).area deck.post_count deck.stop_count) →
    Left deck n (or_else (numbers_fault (row area).ranges 1 (area_numbers deck.area)) (behind_area deck n))
all_left {deck} n whole = record { is = whole ∙ lines_fault deck n }

-- the number of the next line, as the code finds it
pub posts_behind : {deck : Deck} {n line : ℕ} → line ≡ posts_at deck → Left deck n (behind_axis deck n (posts_at deck)) →
    Left deck n (behind_axis deck n line)
posts_behind e left = rw e left

module _ {deck : Deck} {n : ℕ} (sized : Sized deck) (line : ℕ) where
  pub stops_behind : deck.post_count ≤ posts_limit → Left deck n (behind_posts deck n (line + length (post_part deck))) →
      Left deck n (behind_posts deck n (line + 1 + deck.post_count))
  stops_behind few left = subst (λ (k : ℕ). Left deck n (behind_posts deck n k))
      (omega (arith, length-map (deck_of deck).posts post_line, posts_counted deck sized)) left

  pub rounds_behind : deck.stop_count ≤ stops_limit → Left deck n (behind_stops deck n (line + length (stop_part deck))) →
      Left deck n (behind_stops deck n (line + 1 + deck.stop_count))
  rounds_behind many left = subst (λ (k : ℕ). Left deck n (behind_stops deck n k))
      (omega (arith, length-map (deck_of deck).stops stop_line, stops_counted deck sized)) left

-- refusals 4 to 6, which the code found
pub parts_answer : {deck : Deck} {n : ℕ} {found : Std.Result (Unit {0}) Refusal} →
    Left deck n (parts_fault (deck_of deck).area deck.post_count deck.stop_count) →
    found ≡ check_parts (area_of (area_numbers deck.area)) deck.post_count deck.stop_count → checked_as found ≡ refusal_in (read_text (file_text deck n))
unfolding parts_fault deck_of
parts_answer left f = ap checked_as f ∙ sym left.is
