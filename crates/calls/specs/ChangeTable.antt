-- Rows of changes of a deck's record (RULES "Change 6"): from a job's bytes or a record's numbers, and some changes, to the answers, to all
-- numbers of the record, or to near and before.
use Rattle.std.specs.Prelude.{ℕ, ◌≡◌, List, [], ◌∷◌, ◌++◌, map, ℤ, pos, negsuc, replicate, set}
use Prim.Native.String.{String}
use Rattle.numbers.specs.Padded.{padded}
use Rattle.query.specs.Place.{Place}
use Rattle.query.specs.Deck.{Stop}
use Rattle.deck.specs.DeckOf.{with_figures}
use Rattle.deck.specs.declared.Deck.{Deck}
use Rattle.change.specs.Change.{Change, add_post, remove_post, add_stop, remove_stop}
use Rattle.change.specs.ChangedRecord.{record_after}
use Rattle.job.specs.declared.Job as Held
use Rattle.calls.specs.Answers.{AnswerOf, gives, refuses}
use Rattle.calls.specs.ReadCall.{read_call}
use Rattle.calls.specs.ChangeCall.{change_call}
use Rattle.calls.specs.RefusalTable.{case_a, ended, many_posts, many_stops, number_and_line}
use Rattle.calls.specs.WriteTable.{apart, record_of, with_area, with_axis, with_stop, counting, square, most_natural, ten_digits}

abbrev pub place : ℤ → ℤ → Place
place x y = record { x = x; y = y }

abbrev pub stop : ℤ → ℤ → ℕ → Stop
stop x y visits = record { at = place x y; visits = visits }

-- the numbers and lines of the answers to some changes, one after another; 0 and 0 stand for a change that is made
abbrev pub answers : Deck → List Change → List (ℕ × ℕ)
answers deck [] = []
answers deck (change ∷ changes) = let r = change_call deck change in number_and_line r.answer ∷ answers r.deck changes

-- the same of the record that a job is read as; where it is refused, the refusal alone
abbrev pub answers_from : AnswerOf Held.Job → List Change → List (ℕ × ℕ)
answers_from (gives job) changes = answers job.deck changes
answers_from (refuses number line) changes = (number, line) ∷ []

abbrev pub answers_read : List ℕ → List Change → List (ℕ × ℕ)
answers_read job changes = answers_from (read_call job) changes

-- a record with the area 1,2,3,4 and the axis costs 2,1, by its other numbers: the count of posts and each post's x, y; the count of stops
-- and each stop's x, y, visits and near; before. Behind the lists are zeros
abbrev pub listing : ℕ → List (ℕ × ℕ) → ℕ → List (ℕ × ℕ × ℕ × ℕ) → ℕ → Deck
listing post_count posts stop_count stops before = with_figures
    (record_of (2, 1) (pos 1 ∷ pos 2 ∷ pos 3 ∷ pos 4 ∷ []) post_count (map (λ p. (pos p.0, pos p.1)) posts) stop_count
    (map (λ s. (pos s.0, pos s.1, s.2)) stops))
    (padded 512 0 (map (λ s. s.3) stops)) before

-- two posts and four stops, of which the first and the third have equal values, and the last differs from them in its visits; and the lines
-- that are read as this record
abbrev pub plates : Deck
plates = listing 2 ((0, 0) ∷ (30, 1) ∷ []) 4 ((10, 4, 2, 24) ∷ (29, 1, 3, 2) ∷ (10, 4, 2, 24) ∷ (10, 4, 5, 24) ∷ []) 222

abbrev pub plate_lines : List String
plate_lines = "area=1,2,3,4" ∷ "axis=2,1" ∷ "posts=2" ∷ "post=0,0" ∷ "post=30,1" ∷ "stops=4" ∷ "stop=10,4,2" ∷ "stop=29,1,3"
    ∷ "stop=10,4,2" ∷ "stop=10,4,5" ∷ "rounds=7" ∷ []

-- near and before of a record after some changes
abbrev pub figures_after : List Change → Deck → List ℕ × ℕ
figures_after changes deck = let r = record_after changes deck in (r.near, r.before)

-- four changes, of which the first and the third are refused
abbrev pub two_refused : List Change
two_refused = remove_post (place (pos 11) (pos 2)) ∷ add_post (place (pos 11) (pos 2)) ∷ add_post (place (pos 20001) (pos 0))
    ∷ remove_stop (stop (pos 10) (pos 4) 2) ∷ []

-- places and stops with values at the ends of their ranges, and with one value that is out of range
abbrev pub places_inside : List Place
places_inside = place (pos 20000) (negsuc 19999) ∷ place (negsuc 19999) (pos 20000) ∷ []

abbrev pub stops_inside : List Stop
stops_inside = stop (pos 20000) (negsuc 19999) 1 ∷ stop (negsuc 19999) (pos 20000) 65535 ∷ []

abbrev pub places_outside : List Place
places_outside =
    place (pos 20001) (pos 0) ∷ place (negsuc 20000) (pos 0) ∷ place (pos 0) (pos 20001) ∷ place (pos 0) (negsuc 20000) ∷ []

abbrev pub stops_outside : List Stop
stops_outside = stop (pos 20001) (pos 0) 1 ∷ stop (negsuc 20000) (pos 0) 1 ∷ stop (pos 0) (pos 20001) 1 ∷ stop (pos 0) (negsuc 20000) 1
    ∷ stop (pos 0) (pos 0) 0 ∷ stop (pos 0) (pos 0) 65536 ∷ stop (pos 0) (pos 0) most_natural ∷ []

pub record ChangeTable : Type 0 where
  pub before_changes : read_call (ended plate_lines) ≡ gives (record { rounds = 7; deck = plates })
  -- an added item goes last; an added post improves near: 2 × 1 + 1 for the stops at 10,4
  pub post_added : record_after (add_post (place (pos 11) (pos 3)) ∷ []) plates ≡ listing 3 ((0, 0) ∷ (30, 1) ∷ (11, 3) ∷ []) 4
      ((10, 4, 2, 3) ∷ (29, 1, 3, 2) ∷ (10, 4, 2, 3) ∷ (10, 4, 5, 3) ∷ []) 33
  pub stop_added : record_after (add_stop (stop (pos 10) (pos 4) 2) ∷ []) plates ≡ listing 2 ((0, 0) ∷ (30, 1) ∷ []) 5
      ((10, 4, 2, 24) ∷ (29, 1, 3, 2) ∷ (10, 4, 2, 24) ∷ (10, 4, 5, 24) ∷ (10, 4, 2, 24) ∷ []) 270
  -- the first that equals is removed, and later ones move up, in order
  pub stop_removed : record_after (remove_stop (stop (pos 10) (pos 4) 2) ∷ []) plates ≡ listing 2 ((0, 0) ∷ (30, 1) ∷ []) 3
      ((29, 1, 3, 2) ∷ (10, 4, 2, 24) ∷ (10, 4, 5, 24) ∷ []) 174
  pub stop_removed_twice : record_after (replicate 2 (remove_stop (stop (pos 10) (pos 4) 2))) plates
      ≡ listing 2 ((0, 0) ∷ (30, 1) ∷ []) 2 ((29, 1, 3, 2) ∷ (10, 4, 5, 24) ∷ []) 126
  -- near is found again where it was the travel to the post that is removed: 2 × 20 + 3 from 10,4 to 30,1
  pub post_removed : record_after (remove_post (place (pos 0) (pos 0)) ∷ []) plates ≡ listing 1 ((30, 1) ∷ []) 4
      ((10, 4, 2, 43) ∷ (29, 1, 3, 2) ∷ (10, 4, 2, 43) ∷ (10, 4, 5, 43) ∷ []) 393
  -- of two posts at one place the first is removed, and near stays
  pub equal_posts : record_after (add_post (place (pos 0) (pos 0)) ∷ remove_post (place (pos 0) (pos 0)) ∷ []) plates
      ≡ listing 2 ((30, 1) ∷ (0, 0) ∷ []) 4 ((10, 4, 2, 24) ∷ (29, 1, 3, 2) ∷ (10, 4, 2, 24) ∷ (10, 4, 5, 24) ∷ []) 222
  -- one change after another, in this order, and those that are refused count as none; near is then 2 × 1 + 2
  pub in_order : record_after two_refused plates
      ≡ listing 3 ((0, 0) ∷ (30, 1) ∷ (11, 2) ∷ []) 3 ((29, 1, 3, 2) ∷ (10, 4, 2, 4) ∷ (10, 4, 5, 4) ∷ []) 34
  pub answers_in_order : answers plates two_refused ≡ (9, 0) ∷ (0, 0) ∷ (3, 0) ∷ (0, 0) ∷ []
  -- 9 where no item has these values, before 5 and 6; 5 for the only post, 6 for the only stop
  pub not_held : answers plates
      (remove_post (place (pos 0) (pos 1)) ∷ remove_stop (stop (pos 29) (pos 1) 2) ∷ remove_stop (stop (pos 1) (pos 29) 3) ∷ [])
      ≡ (9, 0) ∷ (9, 0) ∷ (9, 0) ∷ []
  pub only_post : answers_read (ended case_a)
      (remove_post (place (pos 1) (pos 0)) ∷ remove_post (place (pos 0) (pos 0)) ∷ add_post (place (pos 0) (pos 0))
      ∷ remove_post (place (pos 0) (pos 0)) ∷ remove_post (place (pos 0) (pos 0)) ∷ [])
      ≡ (9, 0) ∷ (5, 0) ∷ (0, 0) ∷ (0, 0) ∷ (5, 0) ∷ []
  pub only_stop : answers_read (ended case_a)
      (remove_stop (stop (pos 8) (pos 12) 1) ∷ remove_stop (stop (pos 8) (pos 12) 1) ∷ remove_stop (stop (pos 4) (pos 3) 2) ∷ [])
      ≡ (0, 0) ∷ (9, 0) ∷ (6, 0) ∷ []
  -- 10 where the list is full, and made again once one is removed
  pub posts_full : answers_read (many_posts "posts=64" 64) (add_post (place (pos 1) (pos 1)) ∷ remove_post (place (pos 0) (pos 0))
      ∷ add_post (place (pos 1) (pos 1)) ∷ add_post (place (pos 1) (pos 1)) ∷ []) ≡ (10, 0) ∷ (0, 0) ∷ (0, 0) ∷ (10, 0) ∷ []
  pub stops_full : answers_read (many_stops "stops=512" 512) (add_stop (stop (pos 1) (pos 1) 1) ∷ remove_stop (stop (pos 4) (pos 3) 2)
      ∷ add_stop (stop (pos 1) (pos 1) 1) ∷ add_stop (stop (pos 1) (pos 1) 1) ∷ []) ≡ (10, 0) ∷ (0, 0) ∷ (0, 0) ∷ (10, 0) ∷ []
  -- 3: both sides of the end of every range, in each of the four changes. It comes before 9
  pub range_ends : answers plates
      (map add_post places_inside ++ map remove_post places_inside ++ map add_stop stops_inside ++ map remove_stop stops_inside)
      ≡ replicate 8 (0, 0)
  pub beyond_ranges : answers plates
      (map add_post places_outside ++ map remove_post places_outside ++ map add_stop stops_outside ++ map remove_stop stops_outside)
      ≡ replicate 22 (3, 0)
  -- and before 10, and also where there is only one post and one stop
  pub range_first : answers_read (many_posts "posts=64" 64) (add_post (place (pos 20001) (pos 0)) ∷ [])
      ++ answers_read (many_stops "stops=512" 512) (add_stop (stop (pos 0) (pos 0) 0) ∷ [])
      ++ answers_read (many_posts "posts=1" 1) (remove_post (place (pos 20001) (pos 0)) ∷ remove_stop (stop (pos 4) (pos 3) 0) ∷ [])
      ≡ replicate 4 (3, 0)
  -- records that no call makes get 3 where reading would not accept their file: all numbers 0; an empty area and one
  -- out of range, axis costs, no posts and no stops, too many, a post, a stop, visits, and a number of ten digits
  pub not_saveable : map (λ d. answers d (add_post (place (pos 0) (pos 0)) ∷ []))
      (record_of (0, 0) [] 0 [] 0 []
      ∷ with_area (pos 8 ∷ pos 2 ∷ pos 2 ∷ pos 8 ∷ []) ∷ with_area (pos 2 ∷ pos 2 ∷ pos 8 ∷ pos 20001 ∷ [])
      ∷ with_axis (0, 1) ∷ with_axis (1, 10)
      ∷ counting 0 (pos 0, pos 0) 2 (pos 4, pos 3, 2) ∷ counting 1 (pos 0, pos 0) 0 (pos 4, pos 3, 2)
      ∷ counting 65 (pos 0, pos 0) 2 (pos 4, pos 3, 2) ∷ counting 1 (pos 0, pos 0) 513 (pos 4, pos 3, 2)
      ∷ counting 1 (pos 20001, pos 0) 2 (pos 4, pos 3, 2) ∷ with_stop (pos 8, negsuc 20000, 1)
      ∷ with_stop (pos 8, pos 12, 0) ∷ with_stop (pos 8, pos 12, 65536) ∷ with_stop (pos 8, pos 12, ten_digits) ∷ [])
      ≡ replicate 14 ((3, 0) ∷ [])
  -- and where near is beyond any travel
  pub near_beyond : answers (with_figures apart (padded 512 0 (1 ∷ 720001 ∷ [])) 0) (add_post (place (pos 0) (pos 0)) ∷ []) ≡ (3, 0) ∷ []
  -- others are changed by the near that is stored; what stands behind the lists and the old before do not matter. A post added, at travels
  -- of 7 and of 6 × 3 + 7 × 2
  pub near_stored : figures_after (add_post (place (pos 10) (pos 12)) ∷ [])
      (with_figures apart (padded 512 720001 (1 ∷ 720000 ∷ [])) most_natural) ≡ (padded 512 720001 (1 ∷ 32 ∷ []), 492)
  -- a post removed that is at travels of 26 and 65, where the other is at 156 and 195
  pub found_again : figures_after (remove_post (place (pos 8) (pos 9)) ∷ []) (with_figures apart (padded 512 3 (26 ∷ 66 ∷ [])) 5)
      ≡ (padded 512 3 (156 ∷ 66 ∷ []), 2862)
  pub found_again_second : figures_after (remove_post (place (pos 8) (pos 9)) ∷ []) (with_figures apart (padded 512 3 (25 ∷ 65 ∷ [])) 5)
      ≡ (padded 512 3 (25 ∷ 195 ∷ []), 3225)
  -- a stop added, at a travel of 7
  pub others_stay : figures_after (add_stop (stop (pos 8) (pos 8) 2) ∷ []) (with_figures apart (padded 512 3 (1 ∷ 720000 ∷ [])) 5)
      ≡ (padded 512 3 (1 ∷ 720000 ∷ 7 ∷ []), 10800026)
  -- what stands behind the lists stays, but where an item is added, and 0 is left where the last item was
  pub behind_added : record_after (add_post (place (pos 6) (pos 7)) ∷ add_stop (stop (pos 8) (pos 9) 3) ∷ [])
      (with_figures (counting 1 (pos 1, pos 2) 1 (pos 4, pos 3, 2)) (replicate 512 5) 9)
      ≡ with_figures (record_of (1, 1) square 2 (set (replicate 64 (pos 1, pos 2)) 1 (pos 6, pos 7))
      2 (set (replicate 512 (pos 4, pos 3, 2)) 1 (pos 8, pos 9, 3))) (set (replicate 512 5) 1 4) 22
  pub behind_removed : record_after (remove_post (place (pos 1) (pos 2)) ∷ remove_stop (stop (pos 4) (pos 3) 2) ∷ [])
      (with_figures (counting 2 (pos 1, pos 2) 2 (pos 4, pos 3, 2)) (replicate 512 5) 9)
      ≡ with_figures (record_of (1, 1) square 1 (set (replicate 64 (pos 1, pos 2)) 1 (pos 0, pos 0))
      1 (set (replicate 512 (pos 4, pos 3, 2)) 1 (pos 0, pos 0, 0))) (set (replicate 512 5) 1 0) 10
