-- The texts of lines: one line more in a loop over a list, the parts that the functions write, and their lengths.
use mathlib.Core.Path.{◌≡◌, refl, sym, ap, ◌∙◌}
use Prim.Native.Nat.{ℕ, zero, suc, ◌+◌, ◌≤◌, ◌<◌}
use native.Mathlib.Numerals.{add-one}
use native.Mathlib.Omega.{arith}
use mathlib.Core.Bool.{true, false}
use mathlib.Core.List.{List, [], ◌∷◌, ◌++◌, map, map-append, flatten, flat_map, append_assoc, append-nil}
use lib.IntN.{ℤ, pos}
use lib.ListN.{length, get_or, take, length-append}
use lib.Seq.{take-suc, take_all}
use Rattle.numbers.proofs.Joined.{flat_map_append}
use Rattle.query.specs.Place.{Place, Rect}
use Rattle.query.specs.Deck.{AxisCosts, Stop}
use Rattle.text.specs.Ascii.{bytes, comma, newline}
use Rattle.text.specs.Decimal.{spell_nat, spell_int}
use Rattle.write.specs.declared.Writer.{Writer}
use Rattle.write.specs.Written.{HasRoom, Wrote}
use Rattle.write.proofs.WrittenLaws.{wrote_both}
use Rattle.job_line.specs.Kinds.{Kind, row, end_of}
use Rattle.job.specs.Spelling.{JobLine, area_line, axis_line, count_line, post_line, stop_line, spell_numbers, spell_line}
use Rattle.job.specs.File.{writes_axis}
use Rattle.job_file.proofs.Parts.{Writing, part_room}
use Rattle.job_file.specs.Texts.{number_text, place_text, area_text, axis_text, post_text, stop_text}

-- ---- lines of a list, one after another
one : (j : JobLine) → flat_map spell_line (j ∷ []) ≡ spell_line j
unfolding flat_map
one j = append-nil (spell_line j)

-- those of values that the code holds in a slice
module _ {A B : Type 0} (line : B → JobLine) (held : A → B) where
  -- of its first n
  abbrev texts : List A → ℕ → List ℕ
  texts l n = flat_map spell_line (map line (map held (take n l)))

  texts_fewer : (k n : ℕ) (l : List A) → k ≤ n → length (texts l k) ≤ length (texts l n)
  unfolding flat_map
  texts_fewer zero n l h = omega arith
  texts_fewer (suc k) n [] h = omega arith
  texts_fewer (suc k) zero (x ∷ xs) h = absurd (omega arith)
  texts_fewer (suc k) (suc n) (x ∷ xs) h = simp length-append (omega (arith, texts_fewer k n xs (omega arith)))

  pub texts_none : (l : List A) → texts l 0 ≡ []
  unfolding flat_map
  texts_none l = refl

  -- of all
  pub texts_all : (l : List A) {n : ℕ} → length l ≤ n → texts l n ≡ flat_map spell_line (map line (map held l))
  texts_all l {n} h = ap (λ (k : List A). flat_map spell_line (map line (map held k))) (take_all n l h)

  -- a turn of a loop that comes to value i: the line counted, the room for it, and the line written behind the others
  module _ (l : List A) (i : ℕ) (d : A) (h : i < length l) where
    abbrev here : List ℕ
    here = spell_line (line (held (get_or l i d)))

    texts_more : texts l (i + 1) ≡ texts l i ++ here
    texts_more =
        let e : take (i + 1) l ≡ take i l ++ (get_or l i d ∷ []) = rw add-one (take-suc l i d h) in
        rw (
          e,
          map-append held (take i l) (get_or l i d ∷ []),
          map-append line (map held (take i l)) (held (get_or l i d) ∷ []),
          flat_map_append spell_line (map line (map held (take i l))) (line (held (get_or l i d)) ∷ []),
          one (line (held (get_or l i d))),
        )

    pub line_counted : length (texts l (i + 1)) ≡ length (texts l i) + length here
    line_counted = ap length texts_more ∙ length-append (texts l i) here

    pub line_room : {before mid : Writer} → Wrote before (texts l i) mid → HasRoom before (length (flat_map spell_line (map line (map held l)))) →
        HasRoom mid (length here)
    line_room w room =
        let all = texts_all l {n = length l} (omega arith) in
        omega (arith, w.next, w.size, room, line_counted, texts_fewer (i + 1) (length l) l (omega arith), ap length all)

    pub line_wrote : {before mid after : Writer} → Wrote before (texts l i) mid → Wrote mid here after → Wrote before (texts l (i + 1)) after
    line_wrote v w = rw texts_more (wrote_both v w)

-- ---- one line
line_text : (l : JobLine) → spell_line l ≡ (row l.kind).key ++ spell_numbers l.numbers
unfolding spell_line
line_text l = refl

numbers_more : (n : ℤ) (others : List ℤ) → spell_numbers (n ∷ others) ≡ spell_int n ++ (end_of others ∷ spell_numbers others)
unfolding spell_numbers
numbers_more n others = refl

numbers_one : (z : ℤ) → spell_numbers (z ∷ []) ≡ number_text z newline
unfolding spell_numbers
numbers_one z = refl

numbers_comma : (x y : ℤ) (others : List ℤ) → spell_numbers (x ∷ y ∷ others) ≡ number_text x comma ++ spell_numbers (y ∷ others)
numbers_comma x y others = numbers_more x (y ∷ others) ∙ sym (append_assoc (spell_int x) (comma ∷ []) (spell_numbers (y ∷ others)))

numbers_two : (x y : ℤ) → spell_numbers (x ∷ y ∷ []) ≡ place_text x y newline
numbers_two x y = numbers_comma x y [] ∙ ap (λ (l : List ℕ). number_text x comma ++ l) (numbers_one y)

-- a place, and numbers behind it
numbers_place : (x y z : ℤ) (others : List ℤ) → spell_numbers (x ∷ y ∷ z ∷ others) ≡ place_text x y comma ++ spell_numbers (z ∷ others)
numbers_place x y z others = numbers_comma x y (z ∷ others) ∙ ap (λ (l : List ℕ). number_text x comma ++ l) (numbers_comma y z others)
    ∙ sym (append_assoc (number_text x comma) (number_text y comma) (spell_numbers (z ∷ others)))

-- ---- the parts that a line is written in: its key, and its places and numbers, each with its end
-- `area=xlo,ylo,xhi,yhi`
abbrev pub area_parts : Rect → List (List ℕ)
area_parts r = bytes "area=" ∷ place_text r.xlo r.ylo comma ∷ place_text r.xhi r.yhi newline ∷ []

pub area_joined : (r : Rect) → area_text r ≡ flatten (area_parts r)
unfolding flatten
area_joined r =
    line_text (area_line r) ∙ rw (numbers_place r.xlo r.ylo r.xhi (r.yhi ∷ []), numbers_two r.xhi r.yhi, append-nil (place_text r.xhi r.yhi newline))

-- `axis=a,b`, where it is there
abbrev pub axis_parts : AxisCosts → List (List ℕ)
axis_parts c = bytes "axis=" ∷ number_text (pos c.a) comma ∷ number_text (pos c.b) newline ∷ []

pub axis_joined : (c : AxisCosts) → writes_axis c ≡ true → axis_text c ≡ flatten (axis_parts c)
unfolding flatten
axis_joined c e = rw e (one (axis_line c) ∙ line_text (axis_line c)
    ∙ rw (numbers_comma (pos c.a) (pos c.b) [], numbers_one (pos c.b), append-nil (number_text (pos c.b) newline)))

pub axis_left_out : (c : AxisCosts) → writes_axis c ≡ false → axis_text c ≡ []
unfolding flat_map
axis_left_out c e = rw e

-- `posts=n`, `stops=n`, `rounds=n`
pub count_text : (kind : Kind) (n : ℕ) → spell_line (count_line kind n) ≡ (row kind).key ++ number_text (pos n) newline
count_text kind n = line_text (count_line kind n) ∙ ap (λ (l : List ℕ). (row kind).key ++ l) (numbers_one (pos n))

abbrev pub count_parts : List ℕ → ℕ → List (List ℕ)
count_parts key n = key ∷ number_text (pos n) newline ∷ []

pub count_joined : (key : List ℕ) (n : ℕ) → key ++ number_text (pos n) newline ≡ flatten (count_parts key n)
unfolding flatten
count_joined key n = rw (append-nil (number_text (pos n) newline))

-- `post=x,y`
abbrev pub post_parts : Place → List (List ℕ)
post_parts p = bytes "post=" ∷ place_text p.x p.y newline ∷ []

pub post_joined : (p : Place) → post_text p ≡ flatten (post_parts p)
unfolding flatten
post_joined p = line_text (post_line p) ∙ rw (numbers_two p.x p.y, append-nil (place_text p.x p.y newline))

-- `stop=x,y,visits`
abbrev pub stop_parts : Stop → List (List ℕ)
stop_parts s = bytes "stop=" ∷ place_text s.at.x s.at.y comma ∷ number_text (pos s.visits) newline ∷ []

pub stop_joined : (s : Stop) → stop_text s ≡ flatten (stop_parts s)
unfolding flatten
stop_joined s = line_text (stop_line s)
    ∙ rw (numbers_place s.at.x s.at.y (pos s.visits) [], numbers_one (pos s.visits), append-nil (number_text (pos s.visits) newline))

-- ---- their lengths
-- a natural number is written without a sign
spelled_pos : (n : ℕ) → spell_int (pos n) ≡ spell_nat n
unfolding spell_int
spelled_pos n = refl

nat_text : (n end : ℕ) → number_text (pos n) end ≡ spell_nat n ++ (end ∷ [])
nat_text n end = ap (λ (l : List ℕ). l ++ (end ∷ [])) (spelled_pos n)

pub nat_written : (n end : ℕ) {before after : Writer} → Wrote before (spell_nat n ++ (end ∷ [])) after → Wrote before (number_text (pos n) end) after
nat_written n end w = rw (nat_text n end) w

length_number : (z : ℤ) (end : ℕ) → length (number_text z end) ≡ length (spell_int z) + 1
length_number z end = length-append (spell_int z) (end ∷ [])

length_nat : (n end : ℕ) → length (number_text (pos n) end) ≡ length (spell_nat n) + 1
length_nat n end = omega (arith, length_number (pos n) end, ap length (spelled_pos n))

pub nat_room : {start w : Writer} {text : List ℕ} {due : List (List ℕ)} (n end : ℕ) → Writing start text (number_text (pos n) end ∷ due) w →
    HasRoom w (length (spell_nat n) + 1)
nat_room n end t = omega (arith, part_room t, length_nat n end)

length_place : (x y : ℤ) (end : ℕ) → length (place_text x y end) ≡ length (spell_int x) + length (spell_int y) + 2
length_place x y end = omega (arith, length-append (number_text x comma) (number_text y end), length_number x comma, length_number y end)

pub length_count : (key : List ℕ) (n : ℕ) → length (key ++ number_text (pos n) newline) ≡ length key + length (spell_nat n) + 1
length_count key n = omega (arith, length-append key (number_text (pos n) newline), length_nat n newline)

-- of two parts, and of three
two_parts : (a b : List ℕ) → length (flatten (a ∷ b ∷ [])) ≡ length a + length b
unfolding flatten
two_parts a b = simp (append-nil, length-append)

three_parts : (a b c : List ℕ) → length (flatten (a ∷ b ∷ c ∷ [])) ≡ length a + length b + length c
unfolding flatten
three_parts a b c = simp (append-nil, length-append) (omega arith)

pub length_area : (r : Rect) → length (area_text r)
    ≡ 5 + (length (spell_int r.xlo) + length (spell_int r.ylo) + 2) + (length (spell_int r.xhi) + length (spell_int r.yhi) + 2)
unfolding bytes
length_area r = omega (
  arith,
  ap length (area_joined r),
  three_parts (bytes "area=") (place_text r.xlo r.ylo comma) (place_text r.xhi r.yhi newline),
  length_place r.xlo r.ylo comma,
  length_place r.xhi r.yhi newline,
)

pub length_axis : (c : AxisCosts) → writes_axis c ≡ true → length (axis_text c) ≡ 5 + length (spell_nat c.a) + length (spell_nat c.b) + 2
unfolding bytes
length_axis c e = omega (
  arith,
  ap length (axis_joined c e),
  three_parts (bytes "axis=") (number_text (pos c.a) comma) (number_text (pos c.b) newline),
  length_nat c.a comma,
  length_nat c.b newline,
)

pub length_post : (p : Place) → length (post_text p) ≡ 5 + (length (spell_int p.x) + length (spell_int p.y) + 2)
unfolding bytes
length_post p = omega (arith, ap length (post_joined p), two_parts (bytes "post=") (place_text p.x p.y newline), length_place p.x p.y newline)

pub length_stop : (s : Stop) →
    length (stop_text s) ≡ 5 + (length (spell_int s.at.x) + length (spell_int s.at.y) + 2) + length (spell_nat s.visits) + 1
unfolding bytes
length_stop s = omega (
  arith,
  ap length (stop_joined s),
  three_parts (bytes "stop=") (place_text s.at.x s.at.y comma) (number_text (pos s.visits) newline),
  length_place s.at.x s.at.y comma,
  length_nat s.visits newline,
)
