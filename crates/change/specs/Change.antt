-- The changes of a deck, on its lists of posts and stops (RULES "Change 6").
use Rattle.std.specs.Prelude.{Bool, not, cond, leb, eqb, length}
use mathlib.Core.List.{List, [], ◌∷◌, ◌++◌, foldl}
use Rattle.std.proofs.Math.Option.{Option, none, some}
use Rattle.numbers.specs.Lists.{keep}
use Rattle.query.specs.Place.{Place}
use Rattle.query.specs.Deck.{Stop, Deck}
use Rattle.query.specs.Range.{posts_limit, stops_limit}
use Rattle.job_line.specs.Kinds.{row, in_ranges}
use Rattle.job.specs.Spelling.{JobLine, post_line, stop_line}
use Rattle.items.specs.Items.{is_same_place, is_same_stop, held, remove_first}
use Rattle.refusal.specs.declared.Refusal.{Refusal}
use Rattle.refusal.specs.declared.Refusal.TheVariants.{OutOfRange, NoPosts, NoStops, NotHeld, Full}

-- a change, with the values of the item that comes or goes
pub data Change : Type 0 where
  add_post : Place → Change
  remove_post : Place → Change
  add_stop : Stop → Change
  remove_stop : Stop → Change

-- ---- the resulting lists
-- a deck with another list, and all else unaltered
abbrev pub with_posts : List Place → Deck → Deck
with_posts posts deck = record { axis = deck.axis; area = deck.area; posts = posts; stops = deck.stops }

abbrev pub with_stops : List Stop → Deck → Deck
with_stops stops deck = record { axis = deck.axis; area = deck.area; posts = deck.posts; stops = stops }

-- the deck with a change made
unfoldable pub altered : Change → Deck → Deck
unfolding remove_first
altered (add_post p) deck = with_posts (deck.posts ++ (p ∷ [])) deck
altered (remove_post p) deck = with_posts (remove_first (is_same_place p) deck.posts) deck
altered (add_stop s) deck = with_stops (deck.stops ++ (s ∷ [])) deck
altered (remove_stop s) deck = with_stops (remove_first (is_same_stop s) deck.stops) deck

-- ---- the answers
-- whether the numbers of an item's line in a job are in their ranges
abbrev pub line_in_range : JobLine → Bool
line_in_range l = in_ranges (row l.kind).ranges l.numbers

-- the line of a change's item in a job
abbrev pub item_line : Change → JobLine
item_line (add_post p) = post_line p
item_line (remove_post p) = post_line p
item_line (add_stop s) = stop_line s
item_line (remove_stop s) = stop_line s

-- the refusals that the lists of a deck give a change, each with its condition, in their order
abbrev pub list_conditions : Change → Deck → List (Bool × Refusal)
list_conditions (add_post p) deck = (leb posts_limit (length deck.posts), Full) ∷ []
list_conditions (remove_post p) deck =
    (not (held (is_same_place p) deck.posts), NotHeld) ∷ (eqb (length deck.posts) 1, NoPosts) ∷ []
list_conditions (add_stop s) deck = (leb stops_limit (length deck.stops), Full) ∷ []
list_conditions (remove_stop s) deck =
    (not (held (is_same_stop s) deck.stops), NotHeld) ∷ (eqb (length deck.stops) 1, NoStops) ∷ []

-- all refusals of a change, in their order
unfoldable pub conditions : Change → Deck → List (Bool × Refusal)
unfolding in_ranges keep
conditions change deck = (not (line_in_range (item_line change)), OutOfRange 0) ∷ list_conditions change deck

-- the first refusal whose condition holds
abbrev pub first_refusal : List (Bool × Refusal) → Option Refusal
first_refusal [] = none
first_refusal (c ∷ cs) = cond c.0 (some c.1) (first_refusal cs)

-- the refusal of a change of a deck, if there is one
unfoldable pub change_refusal : Change → Deck → Option Refusal
unfolding conditions
change_refusal change deck = first_refusal (conditions change deck)

-- ---- runs of changes
-- what is there after a change: what was there, where it is refused
abbrev pub unless_refused : {A : Type 0} → Option Refusal → A → A → A
unless_refused none before after = after
unless_refused (some why) before after = before

-- a deck after a change, and after changes one after another, of which refused ones change nothing
unfoldable pub changed : Deck → Change → Deck
unfolding change_refusal altered
changed deck change = unless_refused (change_refusal change deck) deck (altered change deck)

unfoldable pub changed_by : List Change → Deck → Deck
unfolding changed
changed_by changes deck = foldl changed deck changes
