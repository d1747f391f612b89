-- What a job needs, from the lines of its deck and its rounds alone (RULES "Change 3").
use Rattle.std.specs.Prelude.{ℕ, ◌+◌, ◌-◌, ◌*◌, min}
use Rattle.query.specs.Place.{x_axis, y_axis}
use Rattle.query.specs.Deck.{Deck}
use Rattle.query.specs.Lines.{gaps}

-- gaps across times gaps deep
abbrev pub gap_product : Deck → ℕ
gap_product deck = gaps deck x_axis * gaps deck y_axis

-- the limit of cuts (RULES "Lines")
unfoldable pub cut_limit : Deck → ℕ
unfolding gaps
cut_limit deck = gap_product deck - 1

-- the cells for which there must be room
unfoldable pub cells_needed : Deck → ℕ → ℕ
unfolding gaps
cells_needed deck rounds = min (rounds + 1) (gap_product deck)

pub record Estimate : Type 0 where
  pub across : ℕ
  pub deep : ℕ
  pub limit : ℕ
  pub cells : ℕ

-- the estimate of a deck and a number of rounds
unfoldable pub estimate : Deck → ℕ → Estimate
unfolding gaps cut_limit cells_needed
estimate deck rounds = record {
  across = gaps deck x_axis;
  deep = gaps deck y_axis;
  limit = cut_limit deck;
  cells = cells_needed deck rounds;
}
