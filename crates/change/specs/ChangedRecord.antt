-- The changes of a deck's record, whatever numbers it holds (RULES "Change 6").
use Rattle.std.specs.Prelude.{ℕ, suc, ◌-◌, Bool, true, false, cond, ◌&&◌, leb, length, take, set, Ok, Err}
use Rattle.std.specs.Prelude as Std
use Rattle.std.specs.List.{list_all}
use mathlib.Core.List.{List, map, zip_with, foldl}
use Rattle.std.proofs.Math.Option.{Option, none, some}
use Rattle.std.proofs.Math.Seq.{paste}
use Rattle.query.specs.Place as Query
use Rattle.query.specs.Travel.{closest}
use Rattle.query.specs.Range.{travel_limit}
use Rattle.deck.specs.DeckOf.{deck_of}
use Rattle.deck.specs.Values.{held_axis, place_record, stop_of, stop_record, no_place, no_stop}
use Rattle.columns.specs.StopFigures.{paid}
use Rattle.deck.specs.declared.Deck.{Deck}
use Rattle.deck.specs.declared.Place.{Place}
use Rattle.deck.specs.declared.Stop.{Stop}
use Rattle.job.specs.Format.{job_lines, Result, refused, accepted, checked, read_text}
use Rattle.job.specs.File.{file_text}
use Rattle.refusal.specs.declared.Refusal.{Refusal}
use Rattle.refusal.specs.declared.Refusal.TheVariants.{OutOfRange}
use Rattle.change.specs.Change.{Change, add_post, remove_post, add_stop, remove_stop, change_refusal, unless_refused}
use Rattle.items.specs.Items.{is_same_place, is_same_stop, remove_first, first_place, taken_out_at}
use Rattle.near_change.specs.NearChange.{near_with, near_without}

-- ---- which records can be changed
-- whether a reading accepts
abbrev pub is_accepted : Result → Bool
is_accepted (refused why) = false
is_accepted (accepted job) = true

-- those whose file, with 0 rounds, the reader accepts, its size aside, and in which no near is above the longest travel. Every sound record
-- is one. Whether near and before are right is not tested
unfoldable pub usable : Deck → Bool
unfolding job_lines checked file_text
usable deck = is_accepted (read_text (file_text deck 0)) && list_all (λ n. leb n travel_limit) (take deck.stop_count deck.near)

-- ---- the numbers that a change leaves
-- a record with other posts and other near, and one with other stops; each has the before of its stops and near
abbrev pub with_post_list : Deck → ℕ → List Place → List ℕ → Deck
with_post_list deck n posts nears =
    record deck { post_count = n; posts = posts; near = nears; before = paid (deck_of deck).stops nears }

abbrev pub with_stop_list : Deck → ℕ → List Stop → List ℕ → Deck
with_stop_list deck n stops nears =
    record deck { stop_count = n; stops = stops; near = nears; before = paid (map stop_of (take n stops)) nears }

-- the near of the stops that count, each by its place and by the near that is held; what stands behind stays
unfoldable pub renewed : Deck → (Query.Place → ℕ → ℕ) → List ℕ
unfolding zip_with
renewed deck f =
    let stops = take deck.stop_count deck.stops in
    paste deck.near 0 (zip_with (λ s near. f (stop_of s).at near) stops deck.near) (length stops)

-- a record with a change made
unfoldable pub altered_record : Change → Deck → Deck
unfolding deck_of remove_first first_place taken_out_at renewed near_with near_without closest paid
altered_record (add_post p) deck = with_post_list deck (suc deck.post_count) (set deck.posts deck.post_count (place_record p))
    (renewed deck (near_with (held_axis deck.axis) p))
altered_record (remove_post p) deck =
    let i = first_place (is_same_place p) (deck_of deck).posts in
    let left = remove_first (is_same_place p) (deck_of deck).posts in
    with_post_list deck (deck.post_count - 1) (taken_out_at deck.post_count i no_place deck.posts)
    (renewed deck (near_without (held_axis deck.axis) p left))
altered_record (add_stop s) deck = with_stop_list deck (suc deck.stop_count) (set deck.stops deck.stop_count (stop_record s))
    (set deck.near deck.stop_count (closest (held_axis deck.axis) s.at (deck_of deck).posts))
altered_record (remove_stop s) deck =
    let i = first_place (is_same_stop s) (deck_of deck).stops in
    with_stop_list deck (deck.stop_count - 1) (taken_out_at deck.stop_count i no_stop deck.stops)
    (taken_out_at deck.stop_count i 0 deck.near)

-- ---- the change of any record
-- a record that cannot be changed gets 3, whatever the change
unfoldable pub record_refusal : Change → Deck → Option Refusal
unfolding usable deck_of change_refusal
record_refusal change deck = cond (usable deck) (change_refusal change (deck_of deck)) (some (OutOfRange 0))

-- the answer, and the record as it is then
pub record Changed : Type 0 where
  pub answer : Std.Result (Unit {0}) Refusal
  pub deck : Deck

-- what the code answers
abbrev pub answered : Option Refusal → Std.Result (Unit {0}) Refusal
answered none = Ok tt
answered (some why) = Err why

-- a change of any record
unfoldable pub changed_record : Change → Deck → Changed
unfolding record_refusal altered_record
changed_record change deck =
    let r = record_refusal change deck in
    record { answer = answered r; deck = unless_refused r deck (altered_record change deck) }

-- any record after a run of changes, one after another
unfoldable pub record_after : List Change → Deck → Deck
unfolding changed_record
record_after changes deck = foldl (λ (d : Deck) (change : Change). (changed_record change d).deck) deck changes
