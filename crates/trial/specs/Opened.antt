-- A job that was read (RULES "Job"), with the objects and the lines of its deck, as the code holds them.
use Rattle.std.specs.Prelude.{Option, None, Some}
use Rattle.query.specs.Deck as Query
use Rattle.job.specs.Format.{Result, refused, accepted}
use Rattle.deck.specs.DeckOf.{deck_record}
use Rattle.deck.specs.declared.Deck as Held
use Rattle.prepare.specs.ProblemRecord.{Parts, parts_in, problem_record}
use Rattle.trial.specs.declared.opened.Opened.{Opened}

-- the record of a deck, and what its problem consists of
pub record OpenedParts : Type 0 where
  pub deck : Held.Deck
  pub problem : Parts

-- those of an opened job
abbrev pub parts_of : Opened → OpenedParts
parts_of o = record { deck = o.deck; problem = parts_in o.problem }

unfoldable pub opened_deck : Query.Deck → OpenedParts
unfolding deck_record problem_record
opened_deck deck = record { deck = deck_record deck; problem = problem_record deck }

unfoldable pub opened_record : Result → Option OpenedParts
unfolding opened_deck
opened_record (refused why) = None
opened_record (accepted job) = Some (opened_deck job.deck)
