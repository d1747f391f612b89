-- Which records are sound (RULES "Change 5").
use Rattle.std.specs.Prelude.{◌≡◌}
use Rattle.query.specs.Place.{NonEmpty}
use Rattle.query.specs.Range.{InRange}
use Rattle.deck.specs.DeckOf.{deck_of, deck_record}
use Rattle.deck.specs.declared.Deck.{Deck}

-- those that are the record of a deck whose values are in range and whose area has a point
pub record Sound (deck : Deck) : Type 0 where
  pub range : InRange (deck_of deck)
  pub full : NonEmpty (deck_of deck).area
  pub whole : deck ≡ deck_record (deck_of deck)
