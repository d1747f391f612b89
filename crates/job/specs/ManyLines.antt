-- What the functions that read several lines answer, as the definitions of `Reader` and `Format` have it. No public contract cites these.
use Rattle.std.specs.Prelude as Std
use Rattle.std.specs.Prelude.{ℕ, ◌+◌, ◌≤◌, ◌≡◌, List, [], ◌∷◌, map, ℤ, pos, length, replicate, Ok, Err, IfOk}
use Rattle.job_line.specs.Kinds.{Kind, axis, posts, post, stops, stop, rounds, row}
use Rattle.job_line.specs.OneLine.{Reading, fault, got, Reader, line}
use Rattle.job.specs.Reader.{◌>>=◌, ◌>>◌, return, repeated, optional, end}
use Rattle.job_line.specs.Reading.{area_numbers, cost_numbers, reading_of}
use Rattle.job_line.specs.declared.Unread.{Unread}
use Rattle.job.specs.Format as Format
use Rattle.job.specs.Format.{Result, refused, accepted, count_of, post_of, stop_of, job_of, checked, reading_result}
use Rattle.job.specs.JobRecord.{job_result}
use Rattle.numbers.specs.Padded.{padded}
use Rattle.deck.specs.Values.{place_record, stop_record, no_place, no_stop}
use Rattle.deck.specs.declared.AxisCosts.{AxisCosts}
use Rattle.deck.specs.declared.Deck.{Deck}
use Rattle.deck.specs.declared.Rect.{Rect}
use Rattle.job.specs.declared.Job.{Job}
use Rattle.refusal.specs.declared.Refusal.{Refusal}
use Rattle.query.specs.Range.{posts_limit, stops_limit}

-- the second line of a job, which may be missing and then stands for these costs
pub record AxisAt (unread : Unread) (missing : AxisCosts) (result : Std.Result (AxisCosts × Unread) Refusal) : Type 0 where
  pub is : reading_of cost_numbers result ≡ optional (row axis) (cost_numbers missing) unread.line unread.text.now
  pub few : IfOk result (λ a. a.1.line ≤ unread.line + 1)

-- so many lines of a kind
abbrev pub many_lines : Kind → ℕ → Reader (List (List ℤ))
many_lines kind count = repeated count (line (row kind)) []

-- a line of a count, and the lines that it counts
unfoldable pub counted_lines : Kind → Kind → Reader (List (List ℤ))
unfolding line repeated ◌>>=◌
counted_lines count kind = do
  n ← line (row count)
  many_lines kind (count_of n)

-- lines `post=x,y` and `stop=x,y,visits`: so many, and those that a line of a count counts
abbrev pub post_lines : ℕ → Reader (List (List ℤ))
post_lines = many_lines post

abbrev pub stop_lines : ℕ → Reader (List (List ℤ))
stop_lines = many_lines stop

abbrev pub all_posts : Reader (List (List ℤ))
all_posts = counted_lines posts post

abbrev pub all_stops : Reader (List (List ℤ))
all_stops = counted_lines stops stop

-- ---- lines as a deck's record holds them
-- no posts, and no stops
abbrev pub NoPostsYet : Deck → Type 0
NoPostsYet deck = deck.posts ≡ replicate posts_limit no_place

abbrev pub NoStopsYet : Deck → Type 0
NoStopsYet deck = deck.stops ≡ replicate stops_limit no_stop

-- a record with the posts of these lines in its array, and with as many posts
abbrev pub with_post_lines : Deck → List (List ℤ) → Deck
with_post_lines deck lines = record deck { posts = padded posts_limit no_place (map (λ l. place_record (post_of l)) lines) }

abbrev pub with_posts : Deck → List (List ℤ) → Deck
with_posts deck lines = record (with_post_lines deck lines) { post_count = length lines }

-- the same of stops
abbrev pub with_stop_lines : Deck → List (List ℤ) → Deck
with_stop_lines deck lines = record deck { stops = padded stops_limit no_stop (map (λ l. stop_record (stop_of l)) lines) }

abbrev pub with_stops : Deck → List (List ℤ) → Deck
with_stops deck lines = record (with_stop_lines deck lines) { stop_count = length lines }

-- a result as the definitions have it, where these lines were read
abbrev pub lines_read : List (List ℤ) → Std.Result Unread Refusal → Reading (List (List ℤ))
lines_read lines (Ok left) = got lines left.line left.text.now
lines_read lines (Err why) = fault why

-- what the lines of a list are read as: where none is refused, the record holds them, and they are at most `most`
pub record ListAt (all : Reader (List (List ℤ))) (with_lines : Deck → List (List ℤ) → Deck) (most : ℕ) (unread : Unread) (old new : Deck)
    (result : Std.Result Unread Refusal) : Type 0 where
  pub lines : List (List ℤ)
  pub is : lines_read lines result ≡ all unread.line unread.text.now
  pub few : IfOk result (λ left. length lines ≤ most)
  pub counted : IfOk result (λ left. left.line ≤ unread.line + 1 + most)
  pub held : IfOk result (λ left. new ≡ with_lines old lines)

abbrev pub PostsAt : Unread → Deck → Deck → Std.Result Unread Refusal → Type 0
PostsAt = ListAt all_posts with_posts posts_limit

abbrev pub StopsAt : Unread → Deck → Deck → Std.Result Unread Refusal → Type 0
StopsAt = ListAt all_stops with_stops stops_limit

-- ---- the end of a job
-- the last line, and nothing behind it
unfoldable pub last_line : Reader (List ℤ)
unfolding line end return ◌>>=◌ ◌>>◌
last_line = do
  n ← line (row rounds)
  end
  return n

abbrev pub last_read : ℕ → Std.Result ℕ Refusal → Reading (List ℤ)
last_read n (Ok count) = got (pos count ∷ []) (n + 1) []
last_read n (Err why) = fault why

pub record LastAt (unread : Unread) (result : Std.Result ℕ Refusal) : Type 0 where
  pub is : last_read unread.line result ≡ last_line unread.line unread.text.now

-- the lines behind those of the area and the axis costs, whose numbers these are, and nothing behind them
unfoldable pub rest_lines : List ℤ → List ℤ → Reader Format.Job
unfolding counted_lines last_line return ◌>>=◌
rest_lines a c = do
  ps ← all_posts
  ss ← all_stops
  n ← last_line
  return (job_of a c ps ss n)

-- a job that no refusal of these keeps back
abbrev pub job_unless : Format.Job → Std.Result (Unit {0}) Refusal → Result
job_unless job (Ok u) = accepted job
job_unless job (Err why) = refused why

-- refusals 4, 5 and 6 of so many posts and stops
pub record CheckedAt (area : Rect) (posts stops : ℕ) (result : Std.Result (Unit {0}) Refusal) : Type 0 where
  pub is : (c : List ℤ) (ps ss : List (List ℤ)) (n : List ℤ) → posts ≡ length ps → stops ≡ length ss →
      checked (job_of (area_numbers area) c ps ss n) ≡ job_unless (job_of (area_numbers area) c ps ss n) result
  pub posts_some : IfOk result (λ u. 1 ≤ posts)

-- the job that they come to
pub record RestAt (unread : Unread) (area : Rect) (costs : AxisCosts) (result : Std.Result Job Refusal) : Type 0 where
  pub is : result ≡ job_result (reading_result (rest_lines (area_numbers area) (cost_numbers costs) unread.line unread.text.now))
