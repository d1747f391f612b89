-- Rows of the calls `write` and `read` (RULES "Change 1", "Change 2"), from a record's numbers and an output, or a job's bytes, to all that
-- the call answers and leaves.
use Rattle.std.specs.Prelude.{ℕ, ◌≡◌, List, [], ◌∷◌, ◌++◌, map, ℤ, pos, negsuc, neg_ℤ, length, replicate, get_or, set}
use Prim.Native.String.{String}
use Rattle.numbers.specs.Padded.{padded}
use Rattle.query.specs.Range.{posts_limit, stops_limit}
use Rattle.query.specs.Marked.{deck_a}
use Rattle.deck.specs.DeckOf.{deck_record, with_figures}
use Rattle.deck.specs.declared.Deck.{Deck}
use Rattle.job.specs.File.{file_text}
use Rattle.job.specs.Meaning.{longest_job}
use Rattle.job.specs.declared.Job as Held
use Rattle.calls.specs.Answers.{AnswerOf, gives, refuses}
use Rattle.calls.specs.ReadCall.{read_call}
use Rattle.calls.specs.WriteCall.{Saved, write_call}
use Rattle.calls.specs.RefusalTable.{case_a, behind, ended, number_and_line}

-- a record by its numbers: the axis costs; those of the area; the count of posts and each post's x, y; the count of stops and each stop's
-- x, y, visits. Its near and before are 0
abbrev pub record_of : ℕ × ℕ → List ℤ → ℕ → List (ℤ × ℤ) → ℕ → List (ℤ × ℤ × ℕ) → Deck
record_of axis area post_count posts stop_count stops = record {
  area = record { xlo = get_or area 0 (pos 0); ylo = get_or area 1 (pos 0); xhi = get_or area 2 (pos 0); yhi = get_or area 3 (pos 0) };
  axis = record { a = axis.0; b = axis.1 };
  post_count = post_count;
  posts = padded posts_limit (record { x = pos 0; y = pos 0 }) (map (λ p. record { x = p.0; y = p.1 }) posts);
  stop_count = stop_count;
  stops = padded stops_limit (record { at = record { x = pos 0; y = pos 0 }; visits = 0 })
      (map (λ s. record { at = record { x = s.0; y = s.1 }; visits = s.2 }) stops);
  near = replicate stops_limit 0;
  before = 0;
}

-- a record whose numbers all differ, and the lines of its file
abbrev pub apart : Deck
apart = record_of (6, 7) (negsuc 0 ∷ pos 2 ∷ pos 3 ∷ pos 4 ∷ []) 2 ((pos 5, negsuc 6) ∷ (pos 8, pos 9) ∷ []) 2
    ((pos 10, pos 11, 12) ∷ (pos 13, pos 14, 15) ∷ [])

abbrev pub apart_lines : List String
apart_lines =
    "area=-1,2,3,4" ∷ "axis=6,7" ∷ "posts=2" ∷ "post=5,-7" ∷ "post=8,9" ∷ "stops=2" ∷ "stop=10,11,12" ∷ "stop=13,14,15" ∷ "rounds=0" ∷ []

-- case A's area
abbrev pub square : List ℤ
square = pos 2 ∷ pos 2 ∷ pos 8 ∷ pos 8 ∷ []

-- case A's record with another area; with other counts, of posts and stops that are all alike; with another second stop
abbrev pub with_area : List ℤ → Deck
with_area area = record_of (1, 1) area 1 ((pos 0, pos 0) ∷ []) 2 ((pos 4, pos 3, 2) ∷ (pos 8, pos 12, 1) ∷ [])

abbrev pub counting : ℕ → (ℤ × ℤ) → ℕ → (ℤ × ℤ × ℕ) → Deck
counting post_count post stop_count stop =
    record_of (1, 1) square post_count (replicate posts_limit post) stop_count (replicate stops_limit stop)

abbrev pub with_stop : (ℤ × ℤ × ℕ) → Deck
with_stop stop = record_of (1, 1) square 1 ((pos 0, pos 0) ∷ []) 2 ((pos 4, pos 3, 2) ∷ stop ∷ [])

-- with other axis costs
abbrev pub with_axis : ℕ × ℕ → Deck
with_axis axis = record_of axis square 1 ((pos 0, pos 0) ∷ []) 2 ((pos 4, pos 3, 2) ∷ (pos 8, pos 12, 1) ∷ [])

-- case A's lines with an axis line
abbrev pub carrying : String → List String
carrying line = behind 1 (line ∷ [])

-- the ends of the machine types, and the largest number of nine digits and the smallest of ten
abbrev pub least_word : ℤ
least_word = negsuc 9223372036854775807

abbrev pub most_word : ℤ
most_word = pos 9223372036854775807

abbrev pub most_natural : ℕ
most_natural = 18446744073709551615

abbrev pub nine_digits : ℕ
nine_digits = 999999999

abbrev pub ten_digits : ℕ
ten_digits = 1000000000

-- a record of the longest numbers but for its area
abbrev pub large : Deck
large = counting 64 (least_word, least_word) 512 (least_word, least_word, most_natural)

-- the number and the line that a record with so many rounds gets; 0 and 0 where it is written. The output has room for every job
abbrev pub gets_with : ℕ → Deck → ℕ × ℕ
gets_with rounds deck = number_and_line (write_call deck rounds (replicate 16384 0)).answer

abbrev pub gets : Deck → ℕ × ℕ
gets = gets_with 10

-- a job that was read, written again; a refusal of reading leaves the output
abbrev pub written_again : AnswerOf Held.Job → List ℕ → Saved
written_again (gives job) out = write_call job.deck job.rounds out
written_again (refuses number line) out = record { answer = refuses number line; out = out }

pub record WriteTable : Type 0 where
  -- case A's record, with room for just its 71 bytes, with two bytes more, and with one less
  pub case_a_exact : write_call (deck_record deck_a) 10 (replicate 71 7) ≡ record { answer = gives 71; out = ended case_a }
  pub case_a_more : write_call (deck_record deck_a) 10 (replicate 73 7) ≡ record { answer = gives 71; out = ended case_a ++ (7 ∷ 7 ∷ []) }
  pub case_a_short : write_call (deck_record deck_a) 10 (replicate 70 7) ≡ record { answer = refuses 8 0; out = replicate 70 7 }
  pub case_a_read : read_call (ended case_a) ≡ gives (record { rounds = 10; deck = deck_record deck_a })
  pub refused_read : read_call (ended (set case_a 1 "posts=65")) ≡ refuses 3 2
  -- each number in its place
  pub each_place : write_call apart 0 (replicate 95 7) ≡ record { answer = gives 95; out = ended apart_lines }
  pub each_place_read : read_call (ended apart_lines)
      ≡ gives (record { rounds = 0; deck = with_figures apart (padded stops_limit 0 (26 ∷ 65 ∷ [])) 1287 })
  -- numbers behind the lists are not written
  pub behind_lists : write_call (counting 1 (pos 5, negsuc 6) 1 (negsuc 0, pos 20000, 65535)) 0 (replicate 80 7)
      ≡ record {
        answer = gives 68;
        out = ended ("area=2,2,8,8" ∷ "posts=1" ∷ "post=5,-7" ∷ "stops=1" ∷ "stop=-1,20000,65535" ∷ "rounds=0" ∷ []) ++ replicate 12 7;
      }
  -- nine digits have the form of a number, ten have not: 3, then 2. The ends of the machine types
  pub stop_x : map (λ z. gets (with_stop (z, pos 12, 1))) (pos 20001 ∷ negsuc 20000 ∷ pos nine_digits ∷ neg_ℤ (pos nine_digits) ∷ [])
      ≡ replicate 4 (3, 6)
  pub stop_x_long : map (λ z. gets (with_stop (z, pos 12, 1))) (pos ten_digits ∷ neg_ℤ (pos ten_digits) ∷ most_word ∷ least_word ∷ [])
      ≡ replicate 4 (2, 6)
  pub stop_y_long : map (λ z. gets (with_stop (pos 8, z, 1))) (pos nine_digits ∷ pos ten_digits ∷ least_word ∷ [])
      ≡ (3, 6) ∷ (2, 6) ∷ (2, 6) ∷ []
  pub visits : map (λ v. gets (with_stop (pos 8, pos 12, v))) (0 ∷ 65536 ∷ nine_digits ∷ ten_digits ∷ most_natural ∷ [])
      ≡ (3, 6) ∷ (3, 6) ∷ (3, 6) ∷ (2, 6) ∷ (2, 6) ∷ []
  pub area_long : map (λ z. gets (with_area (pos 2 ∷ pos 2 ∷ pos 8 ∷ z ∷ []))) (pos nine_digits ∷ pos ten_digits ∷ most_word ∷ [])
      ≡ (3, 1) ∷ (2, 1) ∷ (2, 1) ∷ []
  -- 2 before 3 in a line, wherever they stand
  pub form_first : map gets (with_stop (pos 20001, pos ten_digits, 1) ∷ with_stop (pos ten_digits, pos 20001, 1)
      ∷ with_stop (pos 20001, pos 12, ten_digits) ∷ with_area (pos 20001 ∷ pos 2 ∷ pos 8 ∷ pos ten_digits ∷ []) ∷ [])
      ≡ (2, 6) ∷ (2, 6) ∷ (2, 6) ∷ (2, 1) ∷ []
  -- counts, which are met before their lists and before all that follows
  pub posts_beyond : map (λ n. gets (counting n (pos ten_digits, pos ten_digits) most_natural (pos 0, pos 0, 0)))
      (65 ∷ nine_digits ∷ ten_digits ∷ most_natural ∷ []) ≡ (3, 2) ∷ (3, 2) ∷ (2, 2) ∷ (2, 2) ∷ []
  pub stops_beyond : map (λ n. gets (counting 3 (pos 0, pos 0) n (pos ten_digits, pos 0, 0)))
      (513 ∷ nine_digits ∷ ten_digits ∷ most_natural ∷ []) ≡ (3, 6) ∷ (3, 6) ∷ (2, 6) ∷ (2, 6) ∷ []
  pub second_post : gets (record_of (1, 1) square 2 ((pos 0, pos 0) ∷ (pos 20001, pos 0) ∷ []) 1 ((pos 0, pos 0, 1) ∷ [])) ≡ (3, 4)
  pub first_post : gets (counting 64 (pos 20001, pos 0) most_natural (pos 0, pos 0, 0)) ≡ (3, 3)
  pub first_stop : gets (counting 64 (pos 0, pos 0) 512 (pos 0, pos 20001, 1)) ≡ (3, 68)
  -- rounds, behind 64 posts and 512 stops
  pub rounds_beyond : map (λ n. gets_with n (counting 64 (pos 0, pos 0) 512 (pos 0, pos 0, 1)))
      (1000 ∷ 1001 ∷ nine_digits ∷ ten_digits ∷ most_natural ∷ []) ≡ (0, 0) ∷ (3, 580) ∷ (3, 580) ∷ (2, 580) ∷ (2, 580) ∷ []
  -- 4, 5 and 6 once every line is right, and 8 after all others
  pub empty_area_law : map (λ area. gets (with_area area))
      ((pos 8 ∷ pos 2 ∷ pos 2 ∷ pos 8 ∷ []) ∷ (pos 2 ∷ pos 8 ∷ pos 8 ∷ pos 2 ∷ []) ∷ [])
      ≡ replicate 2 (4, 0)
  pub no_posts : gets (counting 0 (pos 0, pos 0) 0 (pos 0, pos 0, 0)) ≡ (5, 0)
  pub no_stops : gets (counting 1 (pos 0, pos 0) 0 (pos 0, pos 0, 0)) ≡ (6, 0)
  pub four_before_five : gets (record_of (1, 1) (pos 1 ∷ []) 0 [] 0 []) ≡ (4, 0)
  pub three_before_four : gets_with 1001 (with_area (pos 8 ∷ pos 2 ∷ pos 2 ∷ pos 8 ∷ [])) ≡ (3, 7)
  pub others_before_eight : map (λ deck. number_and_line (write_call deck 10 []).answer)
      (with_stop (pos ten_digits, pos 12, 1) ∷ with_stop (pos 20001, pos 12, 1) ∷ with_area (pos 8 ∷ [])
      ∷ counting 0 (pos 0, pos 0) 0 (pos 0, pos 0, 0) ∷ counting 1 (pos 0, pos 0) 0 (pos 0, pos 0, 0) ∷ with_area square ∷ [])
      ≡ (2, 6) ∷ (3, 6) ∷ (4, 0) ∷ (5, 0) ∷ (6, 0) ∷ (8, 0) ∷ []
  -- a file of more than 16,384 bytes gets 2 at a line, and not 1
  pub large_file : gets_with most_natural large ≡ (2, 3)
  pub large_file_length : length (file_text large most_natural) ≡ 37884
  -- the longest job
  pub longest_job_law : longest_job ≡ 14089
  pub longest : length (file_text (record_of (9, 9) (replicate 4 (negsuc 19999)) 64 (replicate 64 (negsuc 19999, negsuc 19999)) 512
      (replicate 512 (negsuc 19999, negsuc 19999, 65535))) 1000) ≡ 14089
  -- the axis line is left out for 1,1 and for no other costs; spelled out, it is not written again
  pub axis_written : map (λ axis. file_text (with_axis axis) 10) ((1, 1) ∷ (1, 2) ∷ (2, 1) ∷ (9, 9) ∷ []) ≡ map ended
      (case_a ∷ carrying "axis=1,2" ∷ carrying "axis=2,1" ∷ carrying "axis=9,9" ∷ [])
  pub spelled_out : written_again (read_call (ended (carrying "axis=1,1"))) (replicate 73 7)
      ≡ record { answer = gives 71; out = ended case_a ++ (7 ∷ 7 ∷ []) }
  pub own_bytes : written_again (read_call (ended (carrying "axis=2,1"))) (replicate 80 7)
      ≡ record { answer = gives 80; out = ended (carrying "axis=2,1") }
  pub own_bytes_short : written_again (read_call (ended (carrying "axis=2,1"))) (replicate 79 7)
      ≡ record { answer = refuses 8 0; out = replicate 79 7 }
  -- an axis cost out of range, and of ten digits; later lines' numbers move by one
  pub axis_beyond : map (λ axis. gets (with_axis axis)) ((0, 1) ∷ (1, 0) ∷ (0, 0) ∷ (10, 1) ∷ (1, 10) ∷ (nine_digits, 1) ∷ [])
      ≡ replicate 6 (3, 2)
  pub axis_ten_digits : map (λ axis. gets (with_axis axis))
      ((ten_digits, 1) ∷ (1, ten_digits) ∷ (0, ten_digits) ∷ (most_natural, most_natural) ∷ []) ≡ replicate 4 (2, 2)
  pub axis_moves : gets_with 1001 (with_axis (1, 1)) ∷ gets_with 1001 (with_axis (1, 2)) ∷ gets_with 1001 (with_axis (2, 1)) ∷ []
      ≡ (3, 7) ∷ (3, 8) ∷ (3, 8) ∷ []
  pub last_line : gets_with 1001
      (record_of (9, 9) square 64 (replicate posts_limit (pos 0, pos 0)) 512 (replicate stops_limit (pos 0, pos 0, 1))) ≡ (3, 581)
