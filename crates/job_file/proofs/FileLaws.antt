-- A file as the join of the parts that it is written in, and its length.
use mathlib.Core.Path.{◌≡◌, refl, ap}
use mathlib.Core.Bool.{cond}
use mathlib.Core.List.{List, [], ◌∷◌, ◌++◌, map, flatten, flat_map, append-nil}
use Prim.Native.Nat.{ℕ, ◌+◌}
use native.Mathlib.Omega.{arith}
use lib.IntN.{pos}
use lib.ListN.{length, take, length-append}
use Rattle.numbers.proofs.Joined.{flat_map_append}
use Rattle.text.specs.Ascii.{bytes, newline}
use Rattle.text.specs.Decimal.{spell_nat}
use Rattle.deck.specs.declared.Deck.{Deck}
use Rattle.deck.specs.Values.{held_axis, rect_of, place_of, stop_of}
use Rattle.job_line.specs.Kinds.{posts, stops, rounds}
use Rattle.job.specs.Spelling.{area_line, axis_line, count_line, post_line, stop_line, spell_line}
use Rattle.job.specs.File.{writes_axis, file_text}
use Rattle.job_file.specs.Texts.{number_text, area_text, axis_text, post_texts, stop_texts}
use Rattle.job_file.proofs.TextLaws.{count_text, length_count}

-- the lines of the posts and of the stops that count
abbrev pub posts_held : Deck → List ℕ
posts_held deck = post_texts (map place_of (take deck.post_count deck.posts))

abbrev pub stops_held : Deck → List ℕ
stops_held deck = stop_texts (map stop_of (take deck.stop_count deck.stops))

abbrev pub count_part : List ℕ → ℕ → List ℕ
count_part key n = key ++ number_text (pos n) newline

abbrev pub file_parts : Deck → ℕ → List (List ℕ)
file_parts deck n = area_text (rect_of deck.area) ∷ axis_text (held_axis deck.axis) ∷ count_part (bytes "posts=") deck.post_count ∷ posts_held deck
    ∷ count_part (bytes "stops=") deck.stop_count ∷ stops_held deck ∷ count_part (bytes "rounds=") n ∷ []

-- the lines, with the deck that the record holds written out
file_lines_lem : (deck : Deck) (n : ℕ) → file_text deck n ≡
    flat_map spell_line (area_line (rect_of deck.area)
    ∷ (cond (writes_axis (held_axis deck.axis)) (axis_line (held_axis deck.axis) ∷ []) [] ++ (count_line posts deck.post_count
    ∷ (map post_line (map place_of (take deck.post_count deck.posts)) ++ (count_line stops deck.stop_count
    ∷ (map stop_line (map stop_of (take deck.stop_count deck.stops)) ++ (count_line rounds n ∷ [])))))))
unfolding file_text
file_lines_lem deck n = refl

joined : {A : Type 0} (f : A → List ℕ) (a b c d : A) (xs ps ss : List A) →
    flat_map f (a ∷ (xs ++ (b ∷ (ps ++ (c ∷ (ss ++ (d ∷ []))))))) ≡ flatten (f a ∷ flat_map f xs ∷ f b ∷ flat_map f ps ∷ f c ∷ flat_map f ss ∷ f d ∷ [])
unfolding flat_map flatten
joined f a b c d xs ps ss = rw (
  flat_map_append f xs (b ∷ (ps ++ (c ∷ (ss ++ (d ∷ []))))),
  flat_map_append f ps (c ∷ (ss ++ (d ∷ []))),
  flat_map_append f ss (d ∷ []),
)

pub file_joined : (deck : Deck) (n : ℕ) → file_text deck n ≡ flatten (file_parts deck n)
file_joined deck n =
    rw (file_lines_lem deck n, joined, count_text posts deck.post_count, count_text stops deck.stop_count, count_text rounds n)

-- ---- its length
seven : (a b c d e f g : List ℕ) → length (flatten (a ∷ b ∷ c ∷ d ∷ e ∷ f ∷ g ∷ []))
    ≡ length a + (length b + (length c + (length d + (length e + (length f + length g)))))
unfolding flatten
seven a b c d e f g = simp (append-nil, length-append)

pub length_file : (deck : Deck) (n : ℕ) → length (file_text deck n) ≡
    length (area_text (rect_of deck.area)) + length (axis_text (held_axis deck.axis)) + (6 + length (spell_nat deck.post_count) + 1)
    + length (posts_held deck) + (6 + length (spell_nat deck.stop_count) + 1) + length (stops_held deck) + (7 + length (spell_nat n) + 1)
unfolding bytes
length_file deck n = omega (
  arith,
  ap length (file_joined deck n),
  seven (area_text (rect_of deck.area)) (axis_text (held_axis deck.axis)) (count_part (bytes "posts=") deck.post_count) (posts_held deck)
      (count_part (bytes "stops=") deck.stop_count) (stops_held deck) (count_part (bytes "rounds=") n),
  length_count (bytes "posts=") deck.post_count,
  length_count (bytes "stops=") deck.stop_count,
  length_count (bytes "rounds=") n,
)
