-- The deck (RULES "Deck") that a record of the code holds, and the record that holds a deck.
use Rattle.std.specs.Prelude.{ℕ, ◌≡◌, length, take}
use mathlib.Core.List.{List, map}
use Rattle.numbers.specs.Padded.{padded}
use Rattle.query.specs.Deck as Query
use Rattle.query.specs.Travel.{near}
use Rattle.query.specs.Cost.{before}
use Rattle.query.specs.Range.{posts_limit, stops_limit}
use Rattle.deck.specs.declared.Deck.{Deck}
use Rattle.deck.specs.Values.{held_axis, axis_record, rect_of, rect_record, place_of, place_record, stop_of, stop_record, no_place, no_stop}

-- a record that the code can hold: its arrays have their sizes. Its numbers may be any, and so may `near` and `before`
pub record Sized (deck : Deck) : Type 0 where
  pub posts : length deck.posts ≡ posts_limit
  pub stops : length deck.stops ≡ stops_limit

-- the deck of a record. A count beyond its array counts all of its elements. It does not depend on `near` and `before`
unfoldable pub deck_of : Deck → Query.Deck
deck_of deck = record {
  axis = held_axis deck.axis;
  area = rect_of deck.area;
  posts = map place_of (take deck.post_count deck.posts);
  stops = map stop_of (take deck.stop_count deck.stops);
}

-- the record of a deck: its lists at the front of the arrays, and 0 behind them, with the near of each stop and before (RULES "Change 5")
unfoldable pub deck_record : Query.Deck → Deck
unfolding padded near before
deck_record deck = record {
  area = rect_record deck.area;
  axis = axis_record deck.axis;
  post_count = length deck.posts;
  posts = padded posts_limit no_place (map place_record deck.posts);
  stop_count = length deck.stops;
  stops = padded stops_limit no_stop (map stop_record deck.stops);
  near = padded stops_limit 0 (map (near deck) deck.stops);
  before = before deck;
}

-- a record that differs at most in these two figures
abbrev pub with_figures : Deck → List ℕ → ℕ → Deck
with_figures deck nears paid = record deck { near = nears; before = paid }
