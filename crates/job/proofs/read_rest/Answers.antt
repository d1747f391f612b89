-- What `job::read_rest` owes.
use Rattle.deck.proofs.DeckLaws.{places_of_stops, visits_of_stops}
use Rattle.job.proofs.PartLaws.{handed}
use Rattle.job.proofs.ReadLaws.{rest_no_posts, rest_no_stops, rest_no_rounds, filled_posts, filled_stops, filled_some, nears_held}
use Rattle.job.proofs.ReadLaws.{checked_parts, rest_unchecked, rest_read}
use Rattle.job.proofs.read_rest.Goals as goal

pub returns-in_err-unread : goal.returns-in_err-unread
returns-in_err-unread c = rw (handed _ c.from_residual.ensures.1) (rest_no_posts c.in_err-unread.ensures)

pub returns-in_err-unread-2 : goal.returns-in_err-unread-2
returns-in_err-unread-2 c = rw (handed _ c.from_residual-in_err-unread-2.ensures.1) (rest_no_stops c.in_ok-unread.ensures c.in_err-unread-2.ensures)

pub returns-in_err-rounds : goal.returns-in_err-rounds
returns-in_err-rounds c =
    rw (handed _ c.from_residual-in_err-rounds.ensures.1)
    (rest_no_rounds c.in_ok-unread.ensures c.in_ok-unread-2.ensures c.in_err-rounds.ensures)

pub returns-in_err-check_parts : goal.returns-in_err-check_parts
returns-in_err-check_parts c =
    rw (handed _ c.from_residual-in_err-check_parts.ensures.1)
    (rest_unchecked c.in_ok-unread.ensures c.in_ok-unread-2.ensures c.in_ok-rounds.ensures (checked_parts c.in_err-check_parts.ensures))

pub nears_of-deck-requires : goal.nears_of-deck-requires
nears_of-deck-requires c =
    let posts = filled_posts c.in_ok-unread.ensures c.in_ok-unread-2.ensures in
    let stops = filled_stops c.in_ok-unread.ensures c.in_ok-unread-2.ensures in
    rw (c.listed_posts.ensures, c.listed_stops.ensures) (
      c.requires.1,
      posts,
      places_of_stops stops,
      filled_some c.in_ok-unread.ensures c.in_ok-unread-2.ensures (checked_parts c.in_ok-check_parts.ensures).posts_some,
    )

pub before_of-requires : goal.before_of-requires
before_of-requires c = rw (c.listed_stops-2.ensures, c.listed_near.ensures) (
  visits_of_stops (filled_stops c.in_ok-unread.ensures c.in_ok-unread-2.ensures),
  nears_held c.in_ok-unread.ensures c.in_ok-unread-2.ensures (rw (c.listed_posts.ensures, c.listed_stops.ensures) at c.nears_of-deck.ensures),
)

pub returns : goal.returns
returns c = rest_read c.in_ok-unread.ensures c.in_ok-unread-2.ensures c.in_ok-rounds.ensures (checked_parts c.in_ok-check_parts.ensures)
    (rw (c.listed_posts.ensures, c.listed_stops.ensures) at c.nears_of-deck.ensures)
    (rw (c.listed_stops-2.ensures, c.listed_near.ensures) at c.before_of.ensures)
